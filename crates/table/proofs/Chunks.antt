-- Chunks of a table's bytes taken out of it.
use Rattle.std.proofs.Common.{◌≡◌, ℕ, zero, suc, ◌+◌, ◌*◌, ◌/◌, ◌<◌, ◌≤◌, List, length, get_or, take, drop, refl, ◌∙◌, arith}
use Rattle.std.specs.Simd.{first_chunks}
use Rattle.std.proofs.lemmas.List.{get_or-drop, get_or-take, drop-take, take-take, length-drop, length-take-le}

-- a byte of a chunk stands in the table too
pub taken : (k : ℕ) (bs : List ℕ) (at i : ℕ) → i < k → get_or (take k (drop at bs)) i 0 ≡ get_or bs (at + i) 0
taken k bs at i h = get_or-take k (drop at bs) i 0 h ∙ get_or-drop at bs i 0

chunks_in_front : (k n : ℕ) (xs : List ℕ) → first_chunks k n (take (k * n) xs) ≡ first_chunks k n xs
chunks_in_front k zero xs = refl
chunks_in_front k (suc n) xs =
    let more : k * suc n ≡ k + k * n = omega arith in
    let first = take-take k (k * suc n) xs (omega arith) in
    let after = drop-take k (k * n) xs in
    let later = chunks_in_front k n (drop k xs) in
    cc

-- all chunks of a part that holds a whole number of them
pub chunks_of_part : (k : ℕ) (bs : List ℕ) (at size n : ℕ) → size ≡ k * n → size / k ≡ n → at + size ≤ length bs
    → let part = take size (drop at bs) in first_chunks k (length part / k) part ≡ first_chunks k n (drop at bs)
chunks_of_part k bs at size n e d h =
    let room = length-drop at bs in
    let long = length-take-le size (drop at bs) (omega arith) in
    rw (long, d, e) (chunks_in_front k n (drop at bs))
