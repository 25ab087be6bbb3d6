-- The plain machine: sequentially consistent, it runs tables of either kind.
use Rattle.std.specs.Prelude.{ℕ, Bool, true, false, if◌then◌else◌, List, [], length, replicate, Some, None, Ok, Err, Option, Result, ◌==◌, nat_lt, slice_index, slice_index_or, slice_set}
use Rattle.std.specs.Bool.{then_some}
use Rattle.std.specs.Option.{ok_or}
use Rattle.model.specs.Action.{Action, stuck, quiet, reads, writes, fences, swaps, opens, shuts, about, can_go, way_of}
use Rattle.model.specs.Table.{Program, fetch, placed}
use Rattle.model.specs.declared.code.Instruction.{Instruction}
use Rattle.model.specs.declared.state.State.{State}
use Rattle.model.specs.declared.state.Thread.{Thread}
use Rattle.model.specs.declared.state.Way.{Way}
use Rattle.model.specs.declared.faults.MachineFault.{MachineFault}
use Rattle.model.specs.declared.faults.MachineFault.TheVariants.{NoThread, Ended, NoWay, NotGranted}

abbrev pub new_thread : Thread
new_thread = record { place = 0; link = 0; registers = replicate 82 0 }

-- everything at 0, no section open
abbrev pub new_run : State
new_run = record { words = replicate 8 0; threads = replicate 4 new_thread; holder = None }

abbrev pub no_thread : Thread
no_thread = record { place = 0; link = 0; registers = [] }

-- one of the four threads
abbrev pub thread_of : List Thread → ℕ → Thread
thread_of ths t = slice_index_or ths t no_thread

-- the run with a thread, and one with a word too
abbrev pub with_thread : State → ℕ → Thread → State
with_thread s t th = record { words = s.words; threads = slice_set s.threads t th; holder = s.holder }

abbrev pub with_word : State → ℕ → ℕ → ℕ → Thread → State
with_word s x v t th = record { words = slice_set s.words x v; threads = slice_set s.threads t th; holder = s.holder }

abbrev pub with_holder : State → Option ℕ → ℕ → Thread → State
with_holder s h t th = record { words = s.words; threads = slice_set s.threads t th; holder = h }

-- nobody holds the section; this thread does
abbrev pub unheld : Option ℕ → Bool
unheld None = true
unheld (Some u) = false

abbrev pub held_by : Option ℕ → ℕ → Bool
held_by None t = false
held_by (Some u) t = u == t

-- no other thread holds the section
abbrev pub may_step : Option ℕ → ℕ → Bool
may_step None t = true
may_step (Some u) t = u == t

-- what an action does, if it has what it needs; nothing is ever pending
abbrev pub performed : State → ℕ → Action → Option State
performed s t stuck = None
performed s t (quiet th) = Some (with_thread s t th)
performed s t (reads x f) = Some (with_thread s t (f (slice_index s.words x)))
performed s t (writes x v th) = Some (with_word s x v t th)
performed s t (fences th) = Some (with_thread s t th)
performed s t (swaps x e v th) = then_some (slice_index s.words x == e) (with_word s x v t th)
performed s t (opens th) = then_some (unheld s.holder) (with_holder s (Some t) t th)
performed s t (shuts th) = then_some (held_by s.holder t) (with_holder s None t th)

-- a step along a way that the instruction can go
abbrev pub step_at : Program → State → ℕ → Instruction → Way → Result State MachineFault
step_at p s t i w =
    ok_or
    (if may_step s.holder t then performed s t (about i w (thread_of s.threads t)) else None)
    (NotGranted (placed p.kind (thread_of s.threads t).place))

abbrev pub step_way : Program → State → ℕ → Instruction → Option Way → Result State MachineFault
step_way p s t i None = Err (NoWay (placed p.kind (thread_of s.threads t).place))
step_way p s t i (Some w) =
    if can_go i w then step_at p s t i w else Err (NoWay (placed p.kind (thread_of s.threads t).place))

abbrev pub step_on : Program → State → ℕ → ℕ → Option Instruction → Result State MachineFault
step_on p s t w None = Err (Ended (placed p.kind (thread_of s.threads t).place))
step_on p s t w (Some i) = step_way p s t i (way_of w)

-- one step of a thread by a way: refused for want of the thread, since it has ended, for the way, or not granted
abbrev pub step : Program → State → ℕ → ℕ → Result State MachineFault
step p s t w =
    if nat_lt t (length p.code) then step_on p s t w (fetch p t (thread_of s.threads t).place) else Err (NoThread t)

-- how a step is answered, and the run after it: a refused step leaves the run as it was
abbrev pub answer_of : {E : Type 0} → Result State E → Result (Unit {0}) E
answer_of (Ok s) = Ok tt
answer_of (Err f) = Err f

abbrev pub run_after : {E : Type 0} → State → Result State E → State
run_after s (Ok after) = after
run_after s (Err f) = s
