-- Rounds and stretches: both count the lines of a thread that follow no line of that thread.
use Rattle.std.proofs.Common.{◌≡◌, ℕ, ◌+◌, ◌<◌, Bool, true, false, cond, eqb, ltb, List, [], ◌∷◌, map, length, get_or, set, IfOk, Some, None, Ok, Err, Option, sym, refl, ap, ◌∙◌, arith}
use Rattle.std.proofs.lemmas.List.{length-set, get_or-replicate}
use Rattle.std.proofs.lemmas.Result.{IfOk-at_ok}
use Rattle.std.proofs.lemmas.Bool.{cond_both}
use Rattle.std.proofs.lemmas.Bool.Decides.{nat_tests}
use Rattle.model.specs.Sanity.{joined_on, stretches, stretches_of, thread_at, RoundsAreStretches}
use Rattle.model.specs.StoreBuffer.{Machine, started, line, lines, Moved, moved, advanced, is_last, rounds_after}
use Rattle.model.specs.Steps.{and_then}
use Rattle.model.specs.Table.{Program}
use Rattle.model.specs.declared.state.Line.{Line}
use Rattle.model.proofs.Reading.{passed}
use Rattle.model.proofs.Writes.{get_or-set}

abbrev one_if : Bool → ℕ
one_if b = cond b 1 0

-- how many of these are the thread and follow another, the first of them after the one given
abbrev begun : ℕ → Option ℕ → List ℕ → ℕ
begun t last [] = 0
begun t last (x ∷ xs) = cond (is_last last x) 0 (one_if (eqb x t)) + begun t (Some x) xs

-- the stretches of a list that begins with x: the first of them does too
record Led (x : ℕ) (gs : List (List ℕ)) : Type 0 where
  first : List ℕ
  rest : List (List ℕ)
  is : gs ≡ (x ∷ first) ∷ rest

led_if : (b : Bool) (x y : ℕ) (ys : List ℕ) (gs : List (List ℕ))
    → Led x (cond b ((x ∷ y ∷ ys) ∷ gs) ((x ∷ []) ∷ (y ∷ ys) ∷ gs))
led_if true x y ys gs = record { first = y ∷ ys; rest = gs; is = refl }
led_if false x y ys gs = record { first = []; rest = (y ∷ ys) ∷ gs; is = refl }

led : (x : ℕ) (gs : List (List ℕ)) → Led x (joined_on x gs)
led x [] = record { first = []; rest = []; is = refl }
led x ([] ∷ gs) = record { first = []; rest = gs; is = refl }
led x ((y ∷ ys) ∷ gs) = led_if (eqb x y) x y ys gs

-- one more in front of stretches that begin with y
counted_if : (b : Bool) (t x y n : ℕ) (ys : List ℕ) (gs : List (List ℕ))
    → one_if (eqb y t) + stretches_of t gs ≡ one_if (eqb y t) + n
    → stretches_of t (cond b ((x ∷ y ∷ ys) ∷ gs) ((x ∷ []) ∷ (y ∷ ys) ∷ gs))
    ≡ one_if (eqb x t) + (cond b 0 (one_if (eqb y t)) + n)
counted_if true t x y n ys gs h = omega arith
counted_if false t x y n ys gs h = omega arith

counted_on : (t x y n : ℕ) (gs : List (List ℕ)) → Led y gs → stretches_of t gs ≡ one_if (eqb y t) + n
    → stretches_of t (joined_on x gs) ≡ one_if (eqb x t) + (cond (eqb x y) 0 (one_if (eqb y t)) + n)
counted_on t x y n gs l h =
    ap (λ z. stretches_of t (joined_on x z)) l.is
    ∙ counted_if (eqb x y) t x y n l.first l.rest (ap (stretches_of t) (sym l.is) ∙ h)

counted : (t x : ℕ) (xs : List ℕ) → stretches_of t (stretches (x ∷ xs)) ≡ one_if (eqb x t) + begun t (Some x) xs
counted t x [] = refl
counted t x (y ∷ ys) =
    counted_on t x y (begun t (Some y) ys) (stretches (y ∷ ys)) (led y (stretches ys)) (counted t y ys)

all_counted : (t : ℕ) (xs : List ℕ) → stretches_of t (stretches xs) ≡ begun t None xs
all_counted t [] = refl
all_counted t (x ∷ xs) = counted t x xs

-- a line adds a round to its own thread, unless the last line was of that thread
round_more : (b : Bool) (rs : List ℕ) (u t : ℕ) → t < length rs
    → get_or (cond b rs (set rs u (get_or rs u 0 + 1))) t 0 ≡ get_or rs t 0 + cond b 0 (one_if (eqb u t))
round_more true rs u t l = omega arith
round_more false rs u t l =
    let new = get_or-set rs u t (get_or rs u 0 + 1) 0 (λ (e : u ≡ t). omega arith) in
    grind (arith, nat_tests)

rounds_long : (b : Bool) (rs : List ℕ) (u n : ℕ) → length (cond b rs (set rs u n)) ≡ length rs
rounds_long true rs u n = refl
rounds_long false rs u n = length-set rs u n

-- what a line that is granted leaves of the rounds, and of the last line's thread
abbrev Goes : Machine → ℕ → Machine → Type 0
Goes m t n = (n.rounds ≡ rounds_after m.rounds m.last t) × (n.last ≡ Some t)

moved_goes : (m : Machine) (t : ℕ) (r : Moved) → IfOk (and_then r (λ x. Ok (advanced m t x))) (Goes m t)
moved_goes m t (Ok r) = (refl, refl)
moved_goes m t (Err f) = tt

line_goes : (p : Program) (m : Machine) (l : Line) → IfOk (line p m l) (Goes m l.thread)
line_goes p m l =
    cond_both (ltb l.thread (length p.code)) _ _ (λ r. IfOk r (Goes m l.thread))
    (λ _. moved_goes m l.thread (moved p m l.thread l.act)) (λ _. tt)

rounds_along : (p : Program) (m n : Machine) (ls : List Line) (t : ℕ) → t < length m.rounds → lines p m ls ≡ Ok n
    → get_or n.rounds t 0 ≡ get_or m.rounds t 0 + begun t m.last (map thread_at ls)
rounds_along p m n [] t l h =
    let e : m ≡ n = cc in
    let same = ap (λ z. get_or z.rounds t 0) e in
    omega arith
rounds_along p m n (x ∷ xs) t l h =
    let a = passed (line p m x) (λ z. lines p z xs) n h in
    let here = IfOk-at_ok (Goes m x.thread) a.1 (line_goes p m x) in
    let same = is_last m.last x.thread in
    let long : length a.0.rounds ≡ length m.rounds = ap length here.0 ∙ rounds_long same m.rounds x.thread _ in
    let later = rounds_along p a.0 n xs t (omega arith) a.2 in
    let from = ap (λ z. begun t z (map thread_at xs)) here.1 in
    let now = ap (λ z. get_or z t 0) here.0 ∙ round_more same m.rounds x.thread t l in
    omega arith

pub rounds_are_stretches_lem : RoundsAreStretches
rounds_are_stretches_lem p memory m ls t few h =
    let along = rounds_along p (started memory) m ls t few h in
    omega (arith, get_or-replicate {A = ℕ} 4 t 0 0 few, all_counted t (map thread_at ls))
