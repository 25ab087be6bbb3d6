-- The correspondence of a translated table's runs and its source's schedules, both ways.
use Rattle.std.specs.Prelude.{◌≡◌, ℕ, ◌<◌, ◌≤◌, List, [], length, take, Some, None, Ok, slice_index, slice_index_or}
use Rattle.model.specs.Encoding.{WellFormed}
use Rattle.model.specs.Memory.{Memory}
use Rattle.model.specs.Plain.{new_run, thread_of}
use Rattle.model.specs.Runs.{Call, granted}
use Rattle.model.specs.Schedule.{Log, new_log, logged_run}
use Rattle.model.specs.StoreBuffer.{Machine, started, unlimited, lines, deepest}
use Rattle.model.specs.Table.{Program}
use Rattle.model.specs.Translation.{block_start, translated}
use Rattle.model.specs.declared.code.Kind.TheVariants.{Source}
use Rattle.model.specs.declared.state.Line.{Line}
use Rattle.model.specs.declared.state.State.{State}

-- A run of the translation and a machine of the source agree: the same words, and each thread at the block of its
-- source place with the same source registers.
pub record Agree (p : Program) (k : ℕ) (s : State) (m : Machine) : Type 0 where
  pub words : take p.words s.words ≡ take p.words m.memory.words
  pub places : (t : ℕ) → t < length p.code
      → ((thread_of s.threads t).place ≡ block_start k (slice_index_or p.code t []) (thread_of m.threads t).place)
      × ((thread_of m.threads t).place ≤ length (slice_index_or p.code t []))
  pub registers : (t : ℕ) → t < length p.code
      → take p.registers (thread_of s.threads t).registers ≡ take p.registers (thread_of m.threads t).registers

-- a source table's program and a number of rounds by which it can be translated
pub record Translatable (p : Program) (k : ℕ) : Type 0 where
  pub formed : WellFormed p
  pub kind : p.kind ≡ Source
  pub rounds : (1 ≤ k) × (k ≤ 4)

-- the machine takes the schedule over this memory, whatever it held, and ends in agreement, in no more rounds
-- than the run opened
abbrev pub Replays : Program → ℕ → State → Log → Memory → Type 0
Replays p k s g memory =
    (m : Machine) × (lines p (started memory) g.lines ≡ Ok m) × Agree p k s m
    × ((t : ℕ) → t < length p.code → slice_index m.rounds t ≤ slice_index g.opened t)

-- Every run that ends with no section open has a schedule that the store-buffer machine accepts on every memory
-- that is deep enough.
abbrev pub EveryRunHasItsSchedule : Type 0
EveryRunHasItsSchedule =
    (p : Program) (k : ℕ) → Translatable p k → (calls : List Call) (s : State) (g : Log)
    → logged_run p (translated p k) new_run new_log calls ≡ (s, g) → s.holder ≡ None
    → (deepest p unlimited g.lines ≡ g.deepest)
    × ((memory : Memory) (d : ℕ) → memory.depth ≡ Some d → g.deepest ≤ d → Replays p k s g memory)

-- Every schedule that the machine without a limit of depth accepts within k rounds for each thread has a run that
-- ends with no section open, all of whose calls are granted, and that opens no more than k rounds.
abbrev pub EveryScheduleHasItsRun : Type 0
EveryScheduleHasItsRun =
    (p : Program) (k : ℕ) → Translatable p k → (schedule : List Line) (m : Machine)
    → lines p unlimited schedule ≡ Ok m
    → ((t : ℕ) → t < length p.code → slice_index m.rounds t ≤ k)
    → (calls : List Call) × (s : State) × (g : Log)
    × (logged_run p (translated p k) new_run new_log calls ≡ (s, g))
    × (granted (translated p k) new_run calls ≡ calls)
    × (s.holder ≡ None) × Agree p k s m
    × ((t : ℕ) → t < length p.code → slice_index g.opened t ≤ k)
