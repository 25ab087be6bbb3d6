-- What a checked table says.
use Rattle.std.specs.Prelude.{ℕ, if◌then◌else◌, Some, None, Ok, Err, Option, Result, nat_lt, slice_index}
use Rattle.model.specs.Table.{Program, position, program_of}
use Rattle.model.specs.declared.faults.TableFault.{TableFault}
use Rattle.table.specs.declared.view.Table.{Table}

abbrev pub said : Table → Program
said t = program_of t.bytes.now

abbrev pub answered : Result Table TableFault → Result Program TableFault
answered (Ok t) = Ok (said t)
answered (Err f) = Err f

-- the position of a thread's code: none of a thread that the table lacks
abbrev pub begins : Table → ℕ → Option ℕ
begins t thread =
    if nat_lt thread (slice_index t.bytes.now 2) then Some (position t.bytes.now thread) else None
