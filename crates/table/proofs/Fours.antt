-- The entries of a table taken out of it by fours.
use Rattle.std.proofs.Common.{◌≡◌, ℕ, zero, suc, ◌+◌, ◌-◌, ◌*◌, ◌/◌, ◌<◌, ◌≤◌, ◌&&◌, ◌==◌, List, length, take, drop, Result, refl, sym, ap, ◌∙◌, arith}
use Rattle.std.specs.Simd.{first_chunks}
use Rattle.std.proofs.lemmas.List.{drop-drop}
use Rattle.model.specs.declared.code.Kind.{Kind}
use Rattle.model.specs.declared.faults.TableFault.{TableFault}
use Rattle.model.specs.declared.faults.TableFault.TheVariants.{Entry}
use Rattle.model.specs.Steps.{and_then, demand}
use Rattle.model.specs.Table.{count, entries_end, entry_at, most_instructions, two, within}
use Rattle.table.proofs.Chunks.{taken, chunks_of_part}
use Rattle.table.specs.Fours.{fours_end}

two_taken : (bs : List ℕ) (at i j : ℕ) → j ≡ at + i → i + 1 < 4 → two (take 4 (drop at bs)) i ≡ two bs j
two_taken bs at i j e h =
    let low = taken 4 bs at i (omega arith) in
    let high = taken 4 bs at (i + 1) h in
    let next : j + 1 ≡ at + (i + 1) = omega arith in
    rw (low, high, next, e) refl

stepped : (k : Kind) (thread at p c : ℕ) (p' c' : ℕ) (x y : ℕ → Result ℕ TableFault) → p ≡ p' → c ≡ c' → x c ≡ y c
    → and_then (demand (p == at && within 1 c (most_instructions k)) (Entry (entry_at thread))) (λ _. x c)
    ≡ and_then (demand (p' == at && within 1 c' (most_instructions k)) (Entry (entry_at thread))) (λ _. y c')
stepped k thread at p c p' c' x y e f g = rw (← e, ← f, g) refl

pub entries_by_fours : (k : Kind) (bs : List ℕ) (thread at n : ℕ)
    → entries_end k bs thread at n ≡ fours_end k thread at (first_chunks 4 n (drop (entry_at thread) bs))
entries_by_fours k bs thread at zero = refl
entries_by_fours k bs thread at (suc n) =
    let start = two_taken bs (entry_at thread) 0 (entry_at thread) (omega arith) (omega arith) in
    let long = two_taken bs (entry_at thread) 2 (entry_at thread + 2) (omega arith) (omega arith) in
    let rest : drop (entry_at (thread + 1)) bs ≡ drop 4 (drop (entry_at thread) bs) =
    ap (λ (i : ℕ). drop i bs) (omega arith) ∙ sym (drop-drop 4 (entry_at thread) bs) in
    stepped k thread at _ _ _ _ (λ c. entries_end k bs (thread + 1) (at + 6 * c) n)
    (λ c. fours_end k (thread + 1) (at + 6 * c) (first_chunks 4 n (drop 4 (drop (entry_at thread) bs)))) (sym start) (sym long)
    (entries_by_fours k bs (thread + 1) (at + 6 * count bs thread) n
    ∙ ap (λ (xs : List ℕ). fours_end k (thread + 1) (at + 6 * count bs thread) (first_chunks 4 n xs)) rest)

-- the part of a table that holds its entries
pub entries_of_part : (k : Kind) (bs : List ℕ) (at end n : ℕ) → end ≡ 6 + 4 * n → end ≤ length bs
    → let part = take (end - 6) (drop 6 bs) in
    fours_end k 0 at (first_chunks 4 (length part / 4) part) ≡ entries_end k bs 0 at n
entries_of_part k bs at end n e h =
    rw (chunks_of_part 4 bs 6 (end - 6) n (omega arith) (omega arith) (omega arith)) (sym (entries_by_fours k bs 0 at n))
