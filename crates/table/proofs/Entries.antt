-- Where the code of a thread lies, and one turn of the loop over threads.
use Rattle.std.proofs.Common.{◌≡◌, ℕ, zero, suc, ◌+◌, ◌-◌, ◌*◌, ◌<◌, ◌≤◌, ◌&&◌, ◌==◌, List, length, get_or, Ok, arith}
use Rattle.std.proofs.lemmas.Bool.{eqb-true, and_parts}
use Rattle.model.specs.declared.code.Kind.{Kind}
use Rattle.model.specs.Table.{count, entries_end, most_instructions, position, within}
use Rattle.model.proofs.Reading.{entries_onward, passed_demand}
use Rattle.table.specs.Layout.{IsLaid}

-- what is left to go through, one step on
pub left : (n i : ℕ) → i < n → n - i ≡ suc (n - (i + 1))
left n i h = omega arith

-- the code of a thread lies before the end that the entries name
code_before : (k : Kind) (bs : List ℕ) (thread at n i j end : ℕ) → i < n → j ≡ thread + i
    → entries_end k bs thread at n ≡ Ok end → position bs j + 6 * count bs j ≤ end
code_before k bs thread at zero i j end l e h = absurd (omega arith)
code_before k bs thread at (suc n) zero j end l e h =
    let a = passed_demand (position bs thread == at && within 1 (count bs thread) (most_instructions k)) _ _ end h in
    let start : position bs thread ≡ at = eqb-true _ _ (and_parts _ _ a.0).0 in
    let after = entries_onward k bs (thread + 1) (at + 6 * count bs thread) n end a.1 in
    let same : j ≡ thread = omega arith in
    rw same (omega arith)
code_before k bs thread at (suc n) (suc i) j end l e h =
    let a = passed_demand (position bs thread == at && within 1 (count bs thread) (most_instructions k)) _ _ end h in
    code_before k bs (thread + 1) (at + 6 * count bs thread) n i j end (omega arith) (omega arith) a.1

pub code_fits : (bs : List ℕ) (thread : ℕ) → IsLaid bs → thread < get_or bs 2 0 → position bs thread + 6 * count bs thread ≤ length bs
code_fits bs thread h l = code_before _ bs 0 _ (get_or bs 2 0) thread thread (length bs) l (omega arith) h.end
