-- Sound memories stay sound, and a drain keeps what its thread looks up.
use Rattle.std.proofs.Common.{◌≡◌, ℕ, zero, suc, ◌<◌, Bool, eqb, ltb, List, [], ◌∷◌, ◌++◌, length, get_or, replicate, IfOk, Some, None, Ok, Option, sym, refl, ap, ◌∙◌, subst, arith}
use Rattle.std.proofs.lemmas.List.{get_or-set_same, length-set}
use Rattle.std.proofs.lemmas.Result.{IfOk-at_ok}
use Rattle.std.proofs.lemmas.Bool.{ltb-true, cond_both}
use Rattle.model.specs.Memory.{Memory, Answer, thread_there, word_there, pending_of, word_of, latest, with_pending, written, appended, stored, drained}
use Rattle.model.specs.Sanity.{WordsBelow, Sound, SoundStays, DrainsKeepLooks}
use Rattle.model.specs.Steps.{and_then, demand}
use Rattle.model.specs.declared.state.Store.{Store}
use Rattle.model.specs.declared.faults.MemoryFault.{MemoryFault}
use Rattle.model.proofs.Reading.{passed_demand}
use Rattle.model.proofs.Writes.{get_or-set}

-- what is asked for is there, if the answer is no refusal
there : {A : Type 0} (k n : ℕ) (f : MemoryFault) (next : Unit {0} → Answer A) (y : A)
    → and_then (demand (ltb k n) f) next ≡ Ok y → (k < n) × (next tt ≡ Ok y)
there k n f next y h = let a = passed_demand (ltb k n) f next y h in (ltb-true k n a.0, a.1)

words_below_push : (n : ℕ) (ss : List Store) (s : Store) → WordsBelow n ss → s.word < n → WordsBelow n (ss ++ s ∷ [])
words_below_push n [] s h l = (l, tt)
words_below_push n (x ∷ xs) s h l = (h.0, words_below_push n xs s h.1 l)

with_pending_sound : (m : Memory) (t : ℕ) (ss : List Store) → Sound m → t < 4 → WordsBelow 8 ss → Sound (with_pending m t ss)
with_pending_sound m t ss sound few below =
    record {
      words = sound.words;
      lists = length-set m.pending t ss ∙ sound.lists;
      stores = λ u.
          subst (WordsBelow 8) (sym (get_or-set m.pending t u ss [] (λ _. omega (arith, sound.lists))))
          (cond_both (eqb t u) _ _ (WordsBelow 8) (λ _. below) (λ _. sound.stores u));
    }

written_sound : (m : Memory) (x v : ℕ) → Sound m → Sound (written m x v)
written_sound m x v sound =
    record { words = length-set m.words x v ∙ sound.words; lists = sound.lists; stores = sound.stores }

-- no list of a cleared memory has a store
no_stores : (n t : ℕ) → WordsBelow 8 (get_or (replicate n []) t [])
no_stores zero t = tt
no_stores (suc n) zero = tt
no_stores (suc n) (suc t) = no_stores n t

module _ (m : Memory) (t : ℕ) (sound : Sound m) (few : t < 4) where
  appended_sound : (x v : ℕ) → x < 8 → Sound (appended m t x v)
  appended_sound x v low =
      with_pending_sound m t _ sound few
      (words_below_push 8 (pending_of m t) (record { word = x; value = v }) (sound.stores t) low)

  stored_sound : (x v : ℕ) → x < 8 → (depth : Option ℕ) → IfOk (stored m t x v depth) Sound
  stored_sound x v low None = appended_sound x v low
  stored_sound x v low (Some d) =
      cond_both (eqb d 0) _ _ (λ r. IfOk r Sound) (λ _. written_sound m x v sound)
      (λ _. cond_both (ltb (length (pending_of m t)) d) _ _ (λ r. IfOk r Sound) (λ _. appended_sound x v low) (λ _. tt))

  drained_sound : (ss : List Store) → WordsBelow 8 ss → IfOk (drained m t ss) Sound
  drained_sound [] below = tt
  drained_sound (s ∷ ss) below =
      with_pending_sound _ t ss (written_sound m s.word s.value sound) few below.1

pub sound_stays : SoundStays
sound_stays =
    record {
      at_first = λ m. record { words = refl; lists = refl; stores = no_stores 4 };
      after_put = λ m n t x v sound h.
          let a = there t 4 _ _ n h in
          let b = there x 8 _ _ n a.1 in
          IfOk-at_ok Sound b.1 (stored_sound m t sound a.0 x v b.0 m.depth);
      after_drain = λ m n t sound h.
          let a = there t 4 _ _ n h in
          IfOk-at_ok Sound a.1 (drained_sound m t sound a.0 (pending_of m t) (sound.stores t));
      after_exchange = λ m n x e v met sound h.
          let a = there x 8 _ _ (met, n) h in
          IfOk-at_ok (λ r. Sound r.1) a.1
          (cond_both (eqb (word_of m x) e) _ _ (λ (r : Bool × Memory). Sound r.1) (λ _. written_sound m x v sound) (λ _. sound));
    }

-- what is looked up is the same: the store that was the oldest is the word's value now
abbrev Looks : ℕ → ℕ → ℕ → Memory → Type 0
Looks t x v m = latest (pending_of m t) x (word_of m x) ≡ v

drained_looks : (m : Memory) (t x : ℕ) → Sound m → t < 4 → (ss : List Store) → WordsBelow 8 ss
    → IfOk (drained m t ss) (Looks t x (latest ss x (word_of m x)))
drained_looks m t x sound few [] below = tt
drained_looks m t x sound few (s ∷ ss) below =
    let left = get_or-set_same m.pending t ss [] (omega (arith, sound.lists)) in
    let new = get_or-set m.words s.word x s.value 0 (λ _. omega (arith, sound.words)) in
    cc

pub drains_keep_looks_lem : DrainsKeepLooks
drains_keep_looks_lem m n t x sound h =
    let a = there t 4 _ _ n h in
    ap (λ v. and_then (thread_there t) (λ _. and_then (word_there x) (λ _. Ok v)))
    (IfOk-at_ok (Looks t x (latest (pending_of m t) x (word_of m x))) a.1
    (drained_looks m t x sound a.0 (pending_of m t) (sound.stores t)))
