-- What a table's code holds at a thread and a place.
use Rattle.std.proofs.Common.{◌≡◌, ℕ, zero, suc, ◌+◌, ◌*◌, ◌<◌, ◌≤◌, List, [], length, get_or, Some, None, sym, refl, ap, ◌∙◌, arith}
use Rattle.std.specs.List.{slice_get}
use Rattle.std.specs.Option.{option_map}
use Rattle.std.proofs.lemmas.List.{get_or_past}
use Rattle.std.proofs.lemmas.Option.{slice_get-get_or, slice_get_past}
use Rattle.model.specs.declared.code.Instruction.{Instruction}
use Rattle.model.specs.Table.{position, count, instruction_at, code_at, codes_at, fetch, program_of}
use Rattle.table.specs.Sixes.{sixes, six_spells}
use Rattle.table.proofs.Sixes.{place_six}

pub length_code : (bs : List ℕ) (at n : ℕ) → length (code_at bs at n) ≡ n
length_code bs at zero = refl
length_code bs at (suc n) = ap suc (length_code bs (at + 6) n)

pub length_codes : (bs : List ℕ) (thread n : ℕ) → length (codes_at bs thread n) ≡ n
length_codes bs thread zero = refl
length_codes bs thread (suc n) = ap suc (length_codes bs (thread + 1) n)

pub thread_code : (bs : List ℕ) (thread n i j : ℕ) → i < n → j ≡ thread + i → get_or (codes_at bs thread n) i [] ≡ code_at bs (position bs j) (count bs j)
thread_code bs thread zero i j h e = absurd (omega arith)
thread_code bs thread (suc n) zero j h e =
    let same : j ≡ thread = omega arith in
    rw same refl
thread_code bs thread (suc n) (suc i) j h e = thread_code bs (thread + 1) n i j (omega arith) (omega arith)

-- the instruction at a place is the one that six bytes spell where they stand
pub place_instruction : (bs : List ℕ) (at n i : ℕ) → i < n → slice_get (code_at bs at n) i ≡ Some (instruction_at bs (at + 6 * i))
place_instruction bs at zero i h = absurd (omega arith)
place_instruction bs at (suc n) zero h =
    let same : at ≡ at + 6 * 0 = omega arith in
    ap (λ (a : ℕ). Some (instruction_at bs a)) same
place_instruction bs at (suc n) (suc i) h =
    let same : (at + 6) + 6 * i ≡ at + 6 * suc i = omega arith in
    place_instruction bs (at + 6) n i (omega arith) ∙ ap (λ (a : ℕ). Some (instruction_at bs a)) same

module _ (bs : List ℕ) (thread : ℕ) where
  code_of : thread < get_or bs 2 0 → get_or (codes_at bs 0 (get_or bs 2 0)) thread [] ≡ code_at bs (position bs thread) (count bs thread)
  code_of h = thread_code bs 0 (get_or bs 2 0) thread thread h (omega arith)

  pub counted : thread < get_or bs 2 0 → option_map length (slice_get (codes_at bs 0 (get_or bs 2 0)) thread) ≡ Some (count bs thread)
  counted h =
      let within : thread < length (codes_at bs 0 (get_or bs 2 0)) = rw (length_codes bs 0 (get_or bs 2 0)) h in
      ap (option_map length) (slice_get-get_or (codes_at bs 0 (get_or bs 2 0)) thread [] within)
      ∙ ap (λ (c : List Instruction). Some (length c)) (code_of h)
      ∙ ap (λ (n : ℕ). Some n) (length_code bs (position bs thread) (count bs thread))

  past : get_or bs 2 0 ≤ thread → length (codes_at bs 0 (get_or bs 2 0)) ≤ thread
  past h = rw (length_codes bs 0 (get_or bs 2 0)) h

  pub not_counted : get_or bs 2 0 ≤ thread → option_map length (slice_get (codes_at bs 0 (get_or bs 2 0)) thread) ≡ None
  not_counted h = ap (option_map length) (slice_get_past (codes_at bs 0 (get_or bs 2 0)) thread (past h))

  module _ (place : ℕ) where
    fetched : thread < get_or bs 2 0 → fetch (program_of bs) thread place ≡ option_map six_spells (slice_get (sixes bs thread) place)
    fetched h =
        ap (λ (c : List Instruction). slice_get c place) (code_of h)
        ∙ sym (place_six bs (position bs thread) (count bs thread) place)

    pub fetched_at : (six : List ℕ) → thread < get_or bs 2 0 → place < length (sixes bs thread)
        → six ≡ get_or (sixes bs thread) place six → fetch (program_of bs) thread place ≡ Some (six_spells six)
    fetched_at six h l e =
        fetched h ∙ ap (option_map six_spells) (slice_get-get_or (sixes bs thread) place six l)
        ∙ ap (λ (x : List ℕ). Some (six_spells x)) (sym e)

    pub fetched_past : thread < get_or bs 2 0 → length (sixes bs thread) ≤ place → fetch (program_of bs) thread place ≡ None
    fetched_past h l = fetched h ∙ ap (option_map six_spells) (slice_get_past (sixes bs thread) place l)

    pub not_fetched : get_or bs 2 0 ≤ thread → fetch (program_of bs) thread place ≡ None
    not_fetched h = ap (λ (c : List Instruction). slice_get c place) (get_or_past (codes_at bs 0 (get_or bs 2 0)) thread [] (past h))
