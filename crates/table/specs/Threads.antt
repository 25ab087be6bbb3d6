-- What is known of a thread that a table has: its entry, and its code.
use Rattle.std.specs.Prelude.{◌≡◌, ℕ, ◌^◌, ◌<◌, List, length, slice_index}
use Rattle.model.specs.Table.{count, position}
use Rattle.table.specs.Sixes.{sixes}
use Rattle.table.specs.declared.layout.Entry.{Entry}

abbrev pub IsEntry : List ℕ → ℕ → Entry → Type 0
IsEntry bs thread e =
    (thread < slice_index bs 2) × (e.position ≡ position bs thread) × (e.count ≡ count bs thread)

abbrev pub IsCode : List ℕ → ℕ → List (List ℕ) → Type 0
IsCode bs thread code = (thread < slice_index bs 2) × (code ≡ sixes bs thread) × (length code < 2 ^ 16)
