-- What a run of the plain machine runs and holds.
use Rattle.std.specs.Prelude.{ℕ, Bool, if◌then◌else◌, length, None, Ok, Err, Option, Result, nat_lt, is_none, slice_index}
use Rattle.std.specs.Bool.{then_some}
use Rattle.model.specs.Action.{register}
use Rattle.model.specs.Plain.{thread_of}
use Rattle.model.specs.Table.{Program, fetch, placed}
use Rattle.model.specs.declared.code.Instruction.{Instruction}
use Rattle.model.specs.declared.faults.TableFault.{TableFault}
use Rattle.model.specs.declared.places.Place.{Place}
use Rattle.model.specs.declared.state.Thread.{Thread}
use Rattle.table.specs.Said.{said}
use Rattle.plain.specs.declared.run.Run.{Run}

abbrev pub runs : Run → Program
runs r = said r.table

abbrev pub begun : Result Run TableFault → Result Program TableFault
begun (Ok r) = Ok (runs r)
begun (Err f) = Err f

abbrev pub has_thread : Run → ℕ → Bool
has_thread r t = nat_lt t (length (runs r).code)

abbrev pub thread_at : Run → ℕ → Thread
thread_at r t = thread_of r.state.threads t

-- the thread, where the table has it
abbrev pub thread_asked : Run → ℕ → Option Thread
thread_asked r t = then_some (has_thread r t) (thread_at r t)

-- the instruction that a thread is at
abbrev pub instruction_at_hand : Run → ℕ → Option Instruction
instruction_at_hand r t = fetch (runs r) t (thread_at r t).place

abbrev pub word_at : Run → ℕ → Option ℕ
word_at r x = then_some (nat_lt x (runs r).words) (slice_index r.state.words x)

abbrev pub place_at : Run → ℕ → Option Place
place_at r t = then_some (has_thread r t) (placed (runs r).kind (thread_at r t).place)

abbrev pub link_at : Run → ℕ → Option Place
link_at r t = then_some (has_thread r t) (placed (runs r).kind (thread_at r t).link)

abbrev pub register_at : Run → ℕ → ℕ → Option ℕ
register_at r t n =
    if has_thread r t then then_some (nat_lt n (runs r).registers) (register (thread_at r t) n) else None

abbrev pub has_ended : Run → ℕ → Option Bool
has_ended r t = then_some (has_thread r t) (is_none (instruction_at_hand r t))
