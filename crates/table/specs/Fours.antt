-- Entries as the four bytes of each.
use Rattle.std.specs.Prelude.{ℕ, ◌+◌, ◌*◌, ◌&&◌, ◌==◌, List, [], ◌∷◌, Ok, Result}
use Rattle.model.specs.Steps.{and_then, demand}
use Rattle.model.specs.Table.{entry_at, most_instructions, two, within}
use Rattle.model.specs.declared.code.Kind.{Kind}
use Rattle.model.specs.declared.faults.TableFault.{TableFault}
use Rattle.model.specs.declared.faults.TableFault.TheVariants.{Entry}

-- the entries of threads from one on, whose code has to begin at a position: the end of all code
abbrev pub fours_end : Kind → ℕ → ℕ → List (List ℕ) → Result ℕ TableFault
fours_end k thread at [] = Ok at
fours_end k thread at (four ∷ fours) =
    and_then (demand (two four 0 == at && within 1 (two four 2) (most_instructions k)) (Entry (entry_at thread)))
    (λ _. fours_end k (thread + 1) (at + 6 * two four 2) fours)
