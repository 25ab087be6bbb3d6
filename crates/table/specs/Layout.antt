-- Bytes with a header and entries, whose code fills the rest.
use Rattle.std.specs.Prelude.{◌≡◌, ℕ, ◌+◌, ◌*◌, ◌≤◌, List, Ok, length, slice_index}
use Rattle.model.specs.Table.{entries_end, kind_of}

-- there is room for the header and for the entries, and the code that the entries name ends where the bytes end
pub record IsLaid (bs : List ℕ) : Type 0 where
  pub header : 6 ≤ length bs
  pub entries : 6 + 4 * slice_index bs 2 ≤ length bs
  pub end : entries_end (kind_of (slice_index bs 1)) bs 0 (6 + 4 * slice_index bs 2) (slice_index bs 2) ≡ Ok (length bs)
