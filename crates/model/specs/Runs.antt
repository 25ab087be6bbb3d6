-- Many steps of a run: as the bytes of a list, and as calls some of which are refused.
use Rattle.std.specs.Prelude.{◌≡◌, ℕ, ◌+◌, ◌*◌, ◌/◌, ◌%◌, ◌<◌, if◌then◌else◌, List, [], ◌∷◌, Ok, Err, Result, nat_lt}
use Rattle.model.specs.Plain.{new_run, run_after, step}
use Rattle.model.specs.Table.{Program, decode}
use Rattle.model.specs.declared.state.State.{State}
use Rattle.model.specs.declared.faults.MachineFault.{MachineFault}
use Rattle.model.specs.declared.faults.StepsFault.{StepsFault}
use Rattle.model.specs.declared.faults.StepsFault.TheVariants.{Byte, Step}

abbrev pub at_index : ℕ → Result State MachineFault → Result State StepsFault
at_index i (Ok s) = Ok s
at_index i (Err f) = Err (Step i f)

-- the step that a byte asks for, thread + 4 × way, at its index in the list
abbrev pub byte_step : Program → State → ℕ → ℕ → Result State StepsFault
byte_step p s i b = if nat_lt b 8 then at_index i (step p s (b % 4) (b / 4)) else Err (Byte i)

-- how a list of steps is answered, and the run after it
pub record Ran : Type 0 where
  pub answer : Result (Unit {0}) StepsFault
  pub state : State

abbrev pub ran_on : State → Result State StepsFault → (State → Ran) → Ran
ran_on s (Ok after) next = next after
ran_on s (Err f) next = record { answer = Err f; state = s }

-- one byte after another until the first refusal; what was granted before it stands
abbrev pub ran_from : Program → State → ℕ → List ℕ → Ran
ran_from p s i [] = record { answer = Ok tt; state = s }
ran_from p s i (b ∷ bs) = ran_on s (byte_step p s i b) (λ after. ran_from p after (i + 1) bs)

pub record Call : Type 0 where
  pub thread : ℕ
  pub way : ℕ

-- the run after calls, of which the refused ones change nothing
abbrev pub asked : Program → State → List Call → State
asked p s [] = s
asked p s (c ∷ cs) = asked p (run_after s (step p s c.thread c.way)) cs

-- the calls that were granted, in order
abbrev pub kept : Call → Result State MachineFault → List Call → List Call
kept c (Ok s) cs = c ∷ cs
kept c (Err f) cs = cs

abbrev pub granted : Program → State → List Call → List Call
granted p s [] = []
granted p s (c ∷ cs) =
    kept c (step p s c.thread c.way) (granted p (run_after s (step p s c.thread c.way)) cs)

abbrev pub as_bytes : List Call → List ℕ
as_bytes [] = []
as_bytes (c ∷ cs) = (c.thread + 4 * c.way) ∷ as_bytes cs

abbrev pub AllSteps : List ℕ → Type 0
AllSteps [] = Unit {0}
AllSteps (b ∷ bs) = (b < 8) × AllSteps bs

-- the granted calls alone lead to the same end, and each is granted again
abbrev pub Suffice : Program → State → List Call → Type 0
Suffice p s cs = (asked p s (granted p s cs) ≡ asked p s cs) × (granted p s (granted p s cs) ≡ granted p s cs)

-- as bytes, the granted calls are a list of steps that is taken whole, to the same end
abbrev pub Taken : Program → State → List Call → Type 0
Taken p s cs =
    AllSteps (as_bytes (granted p s cs))
    × (ran_from p s 0 (as_bytes (granted p s cs)) ≡ record { answer = Ok tt; state = asked p s cs })

abbrev pub GrantedSuffice : Type 0
GrantedSuffice = (p : Program) (s : State) (cs : List Call) → Suffice p s cs

abbrev pub GrantedTaken : Type 0
GrantedTaken = (bs : List ℕ) (p : Program) → decode bs ≡ Ok p → (s : State) (cs : List Call) → Taken p s cs

-- the same of every new run of a table
abbrev pub NewRuns : Type 0
NewRuns = (bs : List ℕ) (p : Program) → decode bs ≡ Ok p → (cs : List Call) → Suffice p new_run cs × Taken p new_run cs
