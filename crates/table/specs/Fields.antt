-- The fields that six bytes hold.
use Rattle.std.specs.Prelude.{ℕ, List, slice_index}
use Rattle.model.specs.Table.{two}
use Rattle.table.specs.declared.fields.Fields.{Fields}

abbrev pub fields_of : List ℕ → Fields
fields_of six =
    record { op = slice_index six 0; p = slice_index six 1; q = slice_index six 2; r = slice_index six 3; target = two six 4 }
