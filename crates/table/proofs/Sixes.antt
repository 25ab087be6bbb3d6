-- Six bytes of a table taken out of it: they spell and fail as they do where they stand.
use Rattle.std.proofs.Common.{◌≡◌, ℕ, zero, suc, ◌+◌, ◌-◌, ◌*◌, ◌/◌, ◌≤◌, List, length, get_or, take, drop, Some, refl, sym, ap, ◌∙◌, arith}
use Rattle.std.specs.List.{slice_get}
use Rattle.std.specs.Option.{option_map}
use Rattle.std.specs.Simd.{first_chunks}
use Rattle.std.proofs.lemmas.List.{drop-drop}
use Rattle.table.proofs.Chunks.{taken, chunks_of_part}
use Rattle.model.specs.declared.code.Limits.{Limits}
use Rattle.model.specs.Steps.{and_then}
use Rattle.model.specs.Table.{Checked, count, limits, position, thread_fault, two, instruction_of, fields_fault, code_fault, code_at}
use Rattle.table.specs.Sixes.{six_spells, sixes, sixes_fault}

-- a function of the six bytes
six_taken : {A : Type 0} (f : ℕ → ℕ → ℕ → ℕ → ℕ → A) (bs : List ℕ) (at : ℕ) →
    let six = take 6 (drop at bs) in
    f (get_or six 0 0) (get_or six 1 0) (get_or six 2 0) (get_or six 3 0) (two six 4)
    ≡ f (get_or bs at 0) (get_or bs (at + 1) 0) (get_or bs (at + 2) 0) (get_or bs (at + 3) 0) (two bs (at + 4))
six_taken f bs at =
    let a : at + 0 ≡ at = omega arith in
    let b : at + 4 + 1 ≡ at + 5 = omega arith in
    let c = taken 6 bs at 0 (omega arith) in
    let d = taken 6 bs at 1 (omega arith) in
    let e = taken 6 bs at 2 (omega arith) in
    let g = taken 6 bs at 3 (omega arith) in
    let h = taken 6 bs at 4 (omega arith) in
    let i = taken 6 bs at 5 (omega arith) in
    cc

six_after : (bs : List ℕ) (at : ℕ) → drop 6 (drop at bs) ≡ drop (at + 6) bs
six_after bs at = drop-drop 6 at bs

both : (r q x y : Checked) → r ≡ q → x ≡ y → and_then r (λ _. x) ≡ and_then q (λ _. y)
both r q x y e f = rw (e, f) refl

pub code_sixes : (l : Limits) (bs : List ℕ) (start i n : ℕ)
    → code_fault l bs (start + 6 * i) n ≡ sixes_fault l start i (first_chunks 6 n (drop (start + 6 * i) bs))
code_sixes l bs start i zero = refl
code_sixes l bs start i (suc n) =
    let next : start + 6 * i + 6 ≡ start + 6 * (i + 1) = omega arith in
    let rest : drop (start + 6 * (i + 1)) bs ≡ drop 6 (drop (start + 6 * i) bs) =
    ap (λ (a : ℕ). drop a bs) (sym next) ∙ sym (six_after bs (start + 6 * i)) in
    both _ _ _ _ (sym (six_taken (fields_fault l (start + 6 * i)) bs (start + 6 * i)))
    (ap (λ (a : ℕ). code_fault l bs a n) next ∙ code_sixes l bs start (i + 1) n
    ∙ ap (λ (xs : List ℕ). sixes_fault l start (i + 1) (first_chunks 6 n xs)) rest)

pub thread_sixes : (bs : List ℕ) (thread : ℕ)
    → thread_fault bs thread ≡ sixes_fault (limits bs thread) (position bs thread) 0 (sixes bs thread)
thread_sixes bs thread =
    let start : position bs thread ≡ position bs thread + 6 * 0 = omega arith in
    ap (λ (at : ℕ). code_fault (limits bs thread) bs at (count bs thread)) start
    ∙ code_sixes (limits bs thread) bs (position bs thread) 0 (count bs thread)
    ∙ ap (λ (at : ℕ). sixes_fault (limits bs thread) (position bs thread) 0 (first_chunks 6 (count bs thread) (drop at bs))) (sym start)

pub place_six : (bs : List ℕ) (at n place : ℕ)
    → option_map six_spells (slice_get (first_chunks 6 n (drop at bs)) place) ≡ slice_get (code_at bs at n) place
place_six bs at zero place = refl
place_six bs at (suc n) zero = ap Some (six_taken instruction_of bs at)
place_six bs at (suc n) (suc place) =
    ap (λ (x : List ℕ). option_map six_spells (slice_get (first_chunks 6 n x) place)) (six_after bs at)
    ∙ place_six bs (at + 6) n place

-- the part of a table that holds a thread's code
pub chunks_of_code : (bs : List ℕ) (thread at n : ℕ) → at ≡ position bs thread → n ≡ count bs thread
    → position bs thread + 6 * count bs thread ≤ length bs
    → let part = take (at + 6 * n - at) (drop at bs) in first_chunks 6 (length part / 6) part ≡ sixes bs thread
chunks_of_code bs thread at n p q h =
    rw (← p, ← q) (chunks_of_part 6 bs at (at + 6 * n - at) n (omega arith) (omega arith) (omega arith))
