-- The schedule that a run of a translated table stands for.
use Rattle.std.specs.Prelude.{ℕ, ◌+◌, ◌-◌, ◌/◌, ◌%◌, max, Bool, true, false, if◌then◌else◌, List, [], ◌∷◌, ◌++◌, map, length, drop, replicate, Some, None, Ok, Err, Option, Result, ◌==◌, nat_le, nat_lt, slice_index, slice_index_or, slice_set}
use Rattle.model.specs.Action.{register, way_of}
use Rattle.model.specs.Encoding.{encode}
use Rattle.model.specs.Plain.{new_run, step, thread_of, unheld}
use Rattle.model.specs.Registers.{Layout, now, drain, index}
use Rattle.model.specs.Runs.{Call, byte_step}
use Rattle.model.specs.Steps.{and_then, demand}
use Rattle.model.specs.StoreBuffer.{line_byte}
use Rattle.model.specs.Table.{Program, decode, fetch}
use Rattle.model.specs.Translation.{body_size, layout_of, translated}
use Rattle.model.specs.declared.code.Instruction.{Instruction}
use Rattle.model.specs.declared.code.Instruction.TheVariants.{Store, Open}
use Rattle.model.specs.declared.code.Kind.{Kind}
use Rattle.model.specs.declared.code.Kind.TheVariants as kind
use Rattle.model.specs.declared.state.State.{State}
use Rattle.model.specs.declared.state.Thread.{Thread}
use Rattle.model.specs.declared.state.Way.{Way}
use Rattle.model.specs.declared.state.Way.TheVariants.{Next}
use Rattle.model.specs.declared.state.Act.TheVariants.{Step, Drain}
use Rattle.model.specs.declared.state.Line.{Line}
use Rattle.model.specs.declared.faults.Given.TheVariants.{First, Second}
use Rattle.model.specs.declared.faults.TableFault.TheVariants.{WrongKind}
use Rattle.model.specs.declared.faults.StepsFault.{StepsFault}
use Rattle.model.specs.declared.faults.ScheduleFault.{ScheduleFault}
use Rattle.model.specs.declared.faults.ScheduleFault.TheVariants as fault

-- The lines so far; for each thread and round the stores that wait for it; for each thread the stores pending and
-- the rounds opened; and the greatest number pending of any thread.
pub record Log : Type 0 where
  pub lines : List Line
  pub waiting : List (List ℕ)
  pub pending : List ℕ
  pub opened : List ℕ
  pub deepest : ℕ

abbrev pub new_log : Log
new_log =
    record {
      lines = [];
      waiting = replicate 4 (replicate 6 0);
      pending = replicate 4 0;
      opened = replicate 4 0;
      deepest = 0;
    }

-- the source instruction whose body a translated place lies in, if it lies in one
abbrev pub inside : ℕ → List Instruction → ℕ → Option Instruction
inside k [] at = None
inside k (i ∷ is) at =
    if nat_lt at (4 + body_size k i) then (if nat_lt at 4 then None else Some i)
    else inside k is (at - (4 + body_size k i))

abbrev pub step_line : ℕ → Way → Line
step_line t w = record { thread = t; act = Step w }

abbrev pub drain_line : ℕ → Line
drain_line t = record { thread = t; act = Drain }

abbrev pub waiting_for : Log → ℕ → ℕ → ℕ
waiting_for g t j = slice_index (slice_index_or g.waiting t []) j

-- OPEN of round j drains the stores that wait for it
abbrev pub open_logged : Log → ℕ → ℕ → Log
open_logged g t j =
    record {
      lines = g.lines ++ replicate (waiting_for g t j) (drain_line t);
      waiting = g.waiting;
      pending = slice_set g.pending t (slice_index g.pending t - waiting_for g t j);
      opened = slice_set g.opened t (slice_index g.opened t + 1);
      deepest = g.deepest;
    }

abbrev pub step_logged : Log → ℕ → Way → Log
step_logged g t w =
    record {
      lines = g.lines ++ step_line t w ∷ [];
      waiting = g.waiting;
      pending = g.pending;
      opened = g.opened;
      deepest = g.deepest;
    }

-- a store that is written at once is pending for a moment
abbrev pub direct_logged : Log → ℕ → Log
direct_logged g t =
    record {
      lines = g.lines ++ step_line t Next ∷ drain_line t ∷ [];
      waiting = g.waiting;
      pending = g.pending;
      opened = g.opened;
      deepest = max g.deepest (slice_index g.pending t + 1);
    }

-- a store that waits for round j
abbrev pub queue_logged : Log → ℕ → ℕ → Log
queue_logged g t j =
    record {
      lines = g.lines ++ step_line t Next ∷ [];
      waiting = slice_set g.waiting t (slice_set (slice_index_or g.waiting t []) j (waiting_for g t j + 1));
      pending = slice_set g.pending t (slice_index g.pending t + 1);
      opened = g.opened;
      deepest = max g.deepest (slice_index g.pending t + 1);
    }

abbrev pub store_logged : Log → ℕ → ℕ → ℕ → Log
store_logged g t now_is drain_is = if nat_lt now_is drain_is then queue_logged g t drain_is else direct_logged g t

-- a finished body writes the step of its instruction
abbrev pub body_logged : Layout → Log → ℕ → Way → Thread → Instruction → Log
body_logged l g t w th (Store p q) = store_logged g t (register th (index l now)) (register th (index l drain))
body_logged l g t w th i = step_logged g t w

-- a body is finished by the step that leads out of it
abbrev pub left_body : Layout → Log → ℕ → Way → Thread → Option Instruction → Option Instruction → Log
left_body l g t w th None after = g
left_body l g t w th (Some i) (Some j) = g
left_body l g t w th (Some i) None = body_logged l g t w th i

abbrev pub opens_round : Option Instruction → Bool
opens_round (Some (Open p r)) = true
opens_round o = false

-- what a granted step of a thread adds, seen from the thread before it and after it
abbrev pub logged : Program → Program → Log → ℕ → Way → Thread → Thread → Log
logged p q g t w before after =
    let l = layout_of p q.rounds in
    let is = slice_index_or p.code t [] in
    elim (opens_round (fetch q t before.place)) [
      | true ↦ open_logged g t (register after (index l now))
      | false ↦ left_body l g t w after (inside q.rounds is before.place) (inside q.rounds is after.place)
    ]

abbrev pub way_or_next : Option Way → Way
way_or_next None = Next
way_or_next (Some w) = w

-- a run and its log; a refused call leaves both
abbrev pub logged_run : Program → Program → State → Log → List Call → State × Log
logged_run p q s g [] = (s, g)
logged_run p q s g (c ∷ cs) =
    elim (step q s c.thread c.way) [
      | Err f ↦ logged_run p q s g cs
      | Ok s' ↦
          logged_run p q s'
          (logged p q g c.thread (way_or_next (way_of c.way)) (thread_of s.threads c.thread) (thread_of s'.threads c.thread))
          cs
    ]

-- a list of step bytes, each of which has to be granted
abbrev pub logged_bytes : Program → Program → ℕ → State → Log → List ℕ → Result (State × Log) StepsFault
logged_bytes p q n s g [] = Ok (s, g)
logged_bytes p q n s g (b ∷ bs) =
    elim (byte_step q s n b) [
      | Err f ↦ Err f
      | Ok s' ↦
          logged_bytes p q (n + 1) s'
          (logged p q g (b % 4) (way_or_next (way_of (b / 4))) (thread_of s.threads (b % 4)) (thread_of s'.threads (b % 4)))
          bs
    ]

-- the first place where two byte strings differ, if they do
abbrev pub first_difference : ℕ → List ℕ → List ℕ → Option ℕ
first_difference n [] [] = None
first_difference n [] (y ∷ ys) = Some n
first_difference n (x ∷ xs) [] = Some n
first_difference n (x ∷ xs) (y ∷ ys) = elim (x == y) [ true ↦ first_difference (n + 1) xs ys | false ↦ Some n ]

-- what the schedule writer gives: how many lines, and the deepest
pub record Written : Type 0 where
  pub count : ℕ
  pub deepest : ℕ

abbrev pub Writes : Type 0 → Type 0
Writes A = Result A ScheduleFault

abbrev pub of_kind : Kind → Kind → Bool
of_kind kind.Source kind.Source = true
of_kind kind.Source kind.Translated = false
of_kind kind.Translated kind.Source = false
of_kind kind.Translated kind.Translated = true

abbrev pub table_read : List ℕ → Writes Program
table_read bs = elim (decode bs) [ Ok p ↦ Ok p | Err f ↦ Err (fault.Table f) ]

abbrev pub is_translation : Program → Program → List ℕ → Writes (Unit {0})
is_translation p q second =
    elim (first_difference 0 second (encode (translated p q.rounds))) [ None ↦ Ok tt | Some at ↦ Err (fault.Differs at) ]

abbrev pub listed : Program → Program → List ℕ → Writes (State × Log)
listed p q list =
    elim (logged_bytes p q 0 new_run new_log list) [ Ok r ↦ Ok r | Err f ↦ Err (fault.Steps f) ]

-- the bytes go to the front of the output, which keeps the rest
abbrev pub scheduled : List ℕ → Log → Writes (Written × List ℕ)
scheduled out g =
    let bs = map line_byte g.lines in
    if nat_le (length bs) (length out) then Ok (record { count = length bs; deepest = g.deepest }, bs ++ drop (length bs) out)
    else Err (fault.Short (length bs))

-- The schedule writer: faults of the first table, of the second, their kinds, the second no translation of the
-- first, the list's refusals, a section open at its end, the output too short.
abbrev pub schedule : List ℕ → List ℕ → List ℕ → List ℕ → Writes (Written × List ℕ)
schedule first second list out =
    and_then (table_read first)
    (λ p. and_then (table_read second)
    (λ q. and_then (demand (of_kind p.kind kind.Source) (fault.Table (WrongKind First)))
    (λ _. and_then (demand (of_kind q.kind kind.Translated) (fault.Table (WrongKind Second)))
    (λ _. and_then (is_translation p q second)
    (λ _. and_then (listed p q list)
    (λ r. and_then (demand (unheld r.0.holder) (fault.SectionOpen (length list))) (λ _. scheduled out r.1)))))))
