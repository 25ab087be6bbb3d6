-- What a list holds after a write at one place.
use Rattle.std.proofs.Common.{◌≡◌, ℕ, ◌<◌, Bool, true, false, cond, eqb, List, length, get_or, set, sym, refl, ap, ◌∙◌}
use Rattle.std.proofs.lemmas.List.{get_or-set_same, get_or-set_other}
use Rattle.std.proofs.lemmas.Bool.{eqb-true, eqb-false}

pub get_or-set : {A : Type 0} (xs : List A) (i j : ℕ) (x d : A) → (i ≡ j → i < length xs)
    → get_or (set xs i x) j d ≡ cond (eqb i j) x (get_or xs j d)
get_or-set {A} xs i j x d inside = split (eqb i j) refl
  where
    split : (b : Bool) → eqb i j ≡ b → get_or (set xs i x) j d ≡ cond b x (get_or xs j d)
    split true e =
        let here : i ≡ j = eqb-true i j e in
        ap (λ k. get_or (set xs i x) k d) (sym here) ∙ get_or-set_same xs i x d (inside here)
    split false e = get_or-set_other xs i j x d (λ (h : j ≡ i). eqb-false i j e (sym h))
