-- How cores with queues run a source table: what is pending in a memory is what the queue of each core still holds.
use Rattle.std.specs.Prelude.{ℕ, ◌+◌, ◌*◌, ◌/◌, ◌%◌, max, Bool, true, false, if◌then◌else◌, ◌&&◌, List, [], ◌∷◌, length, take, replicate, Some, None, Ok, Err, Option, Result, ◌==◌, nat_le, nat_lt, slice_index, slice_set}
use Rattle.model.specs.Steps.{and_then}
use Rattle.model.specs.Action.{Action, stuck, quiet, reads, writes, fences, swaps, opens, shuts, about, can_go}
use Rattle.model.specs.Memory.{Memory, Answer, cleared, look, put, drain, idle, exchange}
use Rattle.model.specs.Plain.{new_thread, thread_of}
use Rattle.model.specs.Table.{Program, decode, fetch, placed}
use Rattle.model.specs.declared.code.Instruction.{Instruction}
use Rattle.model.specs.declared.code.Kind.TheVariants as kind
use Rattle.model.specs.declared.state.Thread.{Thread}
use Rattle.model.specs.declared.state.Way.{Way}
use Rattle.model.specs.declared.state.Way.TheVariants.{Next, Aside}
use Rattle.model.specs.declared.state.Act.{Act}
use Rattle.model.specs.declared.state.Act.TheVariants.{Step, Drain}
use Rattle.model.specs.declared.state.Line.{Line}
use Rattle.model.specs.declared.state.Store.{Store}
use Rattle.model.specs.declared.places.Place.{Place}
use Rattle.model.specs.declared.faults.Given.TheVariants.{First}
use Rattle.model.specs.declared.faults.TableFault.TheVariants.{WrongKind}
use Rattle.model.specs.declared.faults.MachineFault.{MachineFault}
use Rattle.model.specs.declared.faults.MachineFault.TheVariants as machine
use Rattle.model.specs.declared.faults.LineFault.{LineFault}
use Rattle.model.specs.declared.faults.LineFault.TheVariants as line_fault
use Rattle.model.specs.declared.faults.AtLine.{AtLine}
use Rattle.model.specs.declared.faults.ReplayFault.{ReplayFault}
use Rattle.model.specs.declared.faults.ReplayFault.TheVariants as replay_fault

-- the memory, the threads, each thread's rounds so far, the thread of the last line, and how many lines are done
pub record Machine : Type 0 where
  pub memory : Memory
  pub threads : List Thread
  pub rounds : List ℕ
  pub last : Option ℕ
  pub done : ℕ

-- it clears its memory first
abbrev pub started : Memory → Machine
started m = record { memory = cleared m; threads = replicate 4 new_thread; rounds = replicate 4 0; last = None; done = 0 }

-- the machine without a limit of depth
abbrev pub unlimited : Machine
unlimited = started (record { words = []; pending = []; depth = None })

-- a memory's refusal travels up whole
abbrev pub lifted : {A : Type 0} → Answer A → Result A MachineFault
lifted (Ok x) = Ok x
lifted (Err f) = Err (machine.Memory f)

abbrev pub Moved : Type 0
Moved = Result (Memory × Thread) MachineFault

-- goes on where nothing of the thread is pending
abbrev pub if_idle : Memory → ℕ → Place → Moved → Moved
if_idle m t at next = and_then (lifted (idle m t)) (λ n. if n == 0 then next else Err (machine.NotGranted at))

abbrev pub if_swapped : Place → Thread → Bool × Memory → Moved
if_swapped at th r = if r.0 then Ok (r.1, th) else Err (machine.NotGranted at)

-- what an action does with the memory; a refusal of its own is at the thread's place
abbrev pub performed : Memory → ℕ → Place → Action → Moved
performed m t at stuck = Err (machine.NotGranted at)
performed m t at (quiet th) = Ok (m, th)
performed m t at (reads x f) = and_then (lifted (look m t x)) (λ v. Ok (m, f v))
performed m t at (writes x v th) = and_then (lifted (put m t x v)) (λ n. Ok (n, th))
performed m t at (fences th) = if_idle m t at (Ok (m, th))
performed m t at (swaps x e v th) = if_idle m t at (and_then (lifted (exchange m x e v)) (if_swapped at th))
performed m t at (opens th) = Err (machine.NotGranted at)
performed m t at (shuts th) = Err (machine.NotGranted at)

abbrev pub stepped_by : Memory → ℕ → Thread → Place → Way → Option Instruction → Moved
stepped_by m t th at w None = Err (machine.Ended at)
stepped_by m t th at w (Some i) = if can_go i w then performed m t at (about i w th) else Err (machine.NoWay at)

abbrev pub stepped : Program → Machine → ℕ → Way → Moved
stepped p m t w =
    let th = thread_of m.threads t in
    stepped_by m.memory t th (placed p.kind th.place) w (fetch p t th.place)

abbrev pub drain_moved : Machine → ℕ → Moved
drain_moved m t = and_then (lifted (drain m.memory t)) (λ n. Ok (n, thread_of m.threads t))

abbrev pub moved : Program → Machine → ℕ → Act → Moved
moved p m t (Step w) = stepped p m t w
moved p m t Drain = drain_moved m t

abbrev pub is_last : Option ℕ → ℕ → Bool
is_last None t = false
is_last (Some u) t = u == t

-- a line of another thread than the last one begins a round
abbrev pub rounds_after : List ℕ → Option ℕ → ℕ → List ℕ
rounds_after rs last t = if is_last last t then rs else slice_set rs t (slice_index rs t + 1)

abbrev pub advanced : Machine → ℕ → Memory × Thread → Machine
advanced m t r =
    record {
      memory = r.0;
      threads = slice_set m.threads t r.1;
      rounds = rounds_after m.rounds m.last t;
      last = Some t;
      done = m.done + 1;
    }

-- one line: refused for want of the thread, as a step is, or by the memory
abbrev pub line : Program → Machine → Line → Result Machine MachineFault
line p m l =
    if nat_lt l.thread (length p.code) then and_then (moved p m l.thread l.act) (λ r. Ok (advanced m l.thread r))
    else Err (machine.NoThread l.thread)

-- line after line, up to the first refusal
abbrev pub lines : Program → Machine → List Line → Result Machine MachineFault
lines p m [] = Ok m
lines p m (l ∷ ls) = and_then (line p m l) (λ n. lines p n ls)

-- the greatest length of any pending list along a schedule
abbrev pub longest : List (List Store) → ℕ
longest [] = 0
longest (ss ∷ rest) = max (length ss) (longest rest)

abbrev pub deepest : Program → Machine → List Line → ℕ
deepest p m [] = longest m.memory.pending
deepest p m (l ∷ ls) = max (longest m.memory.pending) (elim (line p m l) [ Ok n ↦ deepest p n ls | Err f ↦ 0 ])

-- a number for what is asked of a thread: 0 to go on, 1 to go aside, 2 to write its oldest store
abbrev pub kind_of_act : Act → ℕ
kind_of_act (Step Next) = 0
kind_of_act (Step Aside) = 1
kind_of_act Drain = 2

abbrev pub line_byte : Line → ℕ
line_byte l = l.thread + 4 * kind_of_act l.act

abbrev pub act_of : ℕ → Act
act_of k = if k == 0 then Step Next else if k == 1 then Step Aside else Drain

abbrev pub byte_line : ℕ → Option Line
byte_line b = if nat_le b 11 then Some (record { thread = b % 4; act = act_of (b / 4) }) else None

-- a replay so far: the machine, and the refused line if there was one
pub record Replay : Type 0 where
  pub machine : Machine
  pub fault : Option AtLine

abbrev pub halted : Machine → LineFault → Replay
halted m f = record { machine = m; fault = Some (record { line = record { 0 = m.done }; fault = f }) }

-- lines are taken one after another, and those before a refused one stand
abbrev pub taken : Program → Machine → List ℕ → Replay
taken p m [] = record { machine = m; fault = None }
taken p m (b ∷ bs) =
    elim (byte_line b) [
      | None ↦ halted m line_fault.Byte
      | Some l ↦ elim (line p m l) [ Ok n ↦ taken p n bs | Err f ↦ halted m (line_fault.Machine f) ]
    ]

-- what a replay answers, and the memory that it leaves
abbrev pub Answered : Type 0 → Type 0
Answered A = Result A ReplayFault × Memory

abbrev pub replay_ended : {A : Type 0} → Replay → (Machine → A) → Answered A
replay_ended r answer =
    (elim r.fault [ None ↦ Ok (answer r.machine) | Some f ↦ Err (replay_fault.Line f) ], r.machine.memory)

-- a source table, or a refusal that leaves the memory as it was
abbrev pub with_source : {A : Type 0} → List ℕ → Memory → (Program → Answered A) → Answered A
with_source table m next =
    elim (decode table) [
      | Err f ↦ (Err (replay_fault.Table f), m)
      | Ok p ↦ elim p.kind [ kind.Source ↦ next p | kind.Translated ↦ (Err (replay_fault.Table (WrongKind First)), m) ]
    ]

abbrev pub replay : List ℕ → List ℕ → Memory → Answered Machine
replay table schedule m = with_source table m (λ p. replay_ended (taken p (started m) schedule) (λ n. n))

abbrev pub same : List ℕ → List ℕ → Bool
same [] [] = true
same [] (y ∷ ys) = false
same (x ∷ xs) [] = false
same (x ∷ xs) (y ∷ ys) = x == y && same xs ys

-- a goal is as many bytes as the table has words; it is met if the words equal it in the end
abbrev pub goal : List ℕ → List ℕ → List ℕ → Memory → Answered Bool
goal table schedule wanted m =
    with_source table m
    (λ p. if length wanted == p.words then replay_ended (taken p (started m) schedule) (λ n. same (take p.words n.memory.words) wanted)
    else (Err (replay_fault.Goal (length wanted)), m))
