-- Laws of the machines and memories in the subject's words.
use Rattle.std.specs.Prelude.{◌≡◌, ℕ, ◌+◌, ◌<◌, ◌≤◌, Bool, if◌then◌else◌, List, [], ◌∷◌, map, length, Some, None, Ok, Err, ◌==◌, ◌≢◌, slice_index}
use Rattle.model.specs.Memory.{Memory, pending_of, cleared, look, put, drain, exchange}
use Rattle.model.specs.Plain.{step, thread_of}
use Rattle.model.specs.Runs.{Call, asked}
use Rattle.model.specs.StoreBuffer.{Machine, started, lines}
use Rattle.model.specs.Table.{Program}
use Rattle.model.specs.declared.state.Line.{Line}
use Rattle.model.specs.declared.state.State.{State}
use Rattle.model.specs.declared.state.Store.{Store}
use Rattle.model.specs.declared.faults.MachineFault.{MachineFault}

-- a step granted to one thread leaves every other thread as it was
abbrev pub OtherThreadsStay : Type 0
OtherThreadsStay =
    (p : Program) (s s' : State) (t w u : ℕ) → step p s t w ≡ Ok s' → (u ≢ t)
    → thread_of s'.threads u ≡ thread_of s.threads u

-- a refused step leaves the run as it was
abbrev pub RefusedStepsLeaveTheRun : Type 0
RefusedStepsLeaveTheRun =
    (p : Program) (s : State) (c : Call) (f : MachineFault) → step p s c.thread c.way ≡ Err f
    → asked p s (c ∷ []) ≡ s

-- the machine with its limit of depth taken away
abbrev pub boundless : Machine → Machine
boundless m =
    record {
      memory = record { words = m.memory.words; pending = m.memory.pending; depth = None };
      threads = m.threads;
      rounds = m.rounds;
      last = m.last;
      done = m.done;
    }

-- with a depth of at least 1, what the limited machine accepts the unlimited one accepts, with the same end
abbrev pub LimitsOnlyRefuse : Type 0
LimitsOnlyRefuse =
    (p : Program) (m m' : Machine) (d : ℕ) (ls : List Line) → m.memory.depth ≡ Some d → 1 ≤ d
    → lines p m ls ≡ Ok m' → lines p (boundless m) ls ≡ Ok (boundless m')

abbrev pub WordsBelow : ℕ → List Store → Type 0
WordsBelow n [] = Unit {0}
WordsBelow n (s ∷ ss) = (s.word < n) × WordsBelow n ss

-- eight words, four lists, and every pending store is to one of the words
pub record Sound (m : Memory) : Type 0 where
  pub words : length m.words ≡ 8
  pub lists : length m.pending ≡ 4
  pub stores : (t : ℕ) → WordsBelow 8 (pending_of m t)

-- a cleared memory is sound, and whatever is answered leaves a sound memory sound
pub record SoundStays : Type 0 where
  pub at_first : (m : Memory) → Sound (cleared m)
  pub after_put : (m n : Memory) (t x v : ℕ) → Sound m → put m t x v ≡ Ok n → Sound n
  pub after_drain : (m n : Memory) (t : ℕ) → Sound m → drain m t ≡ Ok n → Sound n
  pub after_exchange : (m n : Memory) (x e v : ℕ) (met : Bool) → Sound m → exchange m x e v ≡ Ok (met, n) → Sound n

-- a drain keeps what its thread looks up, at every word
abbrev pub DrainsKeepLooks : Type 0
DrainsKeepLooks =
    (m n : Memory) (t x : ℕ) → Sound m → drain m t ≡ Ok n → look n t x ≡ look m t x

-- neighbours that are equal stand together: the longest stretches of a list
abbrev pub joined_on : ℕ → List (List ℕ) → List (List ℕ)
joined_on x [] = (x ∷ []) ∷ []
joined_on x ([] ∷ gs) = (x ∷ []) ∷ gs
joined_on x ((y ∷ ys) ∷ gs) = if x == y then (x ∷ y ∷ ys) ∷ gs else (x ∷ []) ∷ (y ∷ ys) ∷ gs

abbrev pub stretches : List ℕ → List (List ℕ)
stretches [] = []
stretches (x ∷ xs) = joined_on x (stretches xs)

-- how many stretches are of this thread
abbrev pub stretches_of : ℕ → List (List ℕ) → ℕ
stretches_of t [] = 0
stretches_of t ([] ∷ gs) = stretches_of t gs
stretches_of t ((x ∷ xs) ∷ gs) = (if x == t then 1 else 0) + stretches_of t gs

abbrev pub thread_at : Line → ℕ
thread_at l = l.thread

-- a thread's rounds along a schedule are the longest stretches of neighbouring lines of that thread
abbrev pub RoundsAreStretches : Type 0
RoundsAreStretches =
    (p : Program) (memory : Memory) (m : Machine) (ls : List Line) (t : ℕ) → t < 4 → lines p (started memory) ls ≡ Ok m
    → slice_index m.rounds t ≡ stretches_of t (stretches (map thread_at ls))
