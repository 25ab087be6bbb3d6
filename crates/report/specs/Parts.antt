-- What the lines of a table hold.
use Rattle.std.specs.Prelude.{ℕ, ◌+◌, ◌*◌, length, Some, None, Option}
use Rattle.std.specs.List.{slice_get}
use Rattle.std.specs.Option.{option_map}
use Rattle.model.specs.Table.{Program, entry_at, fetch}
use Rattle.model.specs.declared.code.Instruction.{Instruction}
use Rattle.table.specs.Said.{said, begins}
use Rattle.table.specs.declared.view.Table.{Table}
use Rattle.report.specs.declared.lines.Entry.{Entry}
use Rattle.report.specs.declared.lines.Listed.{Listed}
use Rattle.report.specs.declared.lines.Accepted.{Accepted}

abbrev pub entry_with : ℕ → Option ℕ → Option ℕ → Option Entry
entry_with thread (Some start) (Some n) =
    Some (record { at = entry_at thread; thread = thread; position = start; count = n })
entry_with thread (Some start) None = None
entry_with thread None n = None

abbrev pub entry_of : Table → ℕ → Option Entry
entry_of t thread = entry_with thread (begins t thread) (option_map length (slice_get (said t).code thread))

abbrev pub listed_with : ℕ → ℕ → Option ℕ → Option Instruction → Option Listed
listed_with thread place (Some start) (Some i) =
    Some (record { at = start + 6 * place; thread = thread; place = place; instruction = i })
listed_with thread place (Some start) None = None
listed_with thread place None i = None

-- the instruction at a place of a thread, six bytes on for each one before it
abbrev pub listed_of : Table → ℕ → ℕ → Option Listed
listed_of t thread place = listed_with thread place (begins t thread) (fetch (said t) thread place)

abbrev pub accepted_of : Program → Accepted
accepted_of p = record { kind = p.kind }
