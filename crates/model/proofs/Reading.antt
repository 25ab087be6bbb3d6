-- What stands from a position of a byte string on, and how checks follow one another.
use Rattle.std.proofs.Common.{◌≡◌, ℕ, zero, suc, ◌+◌, ◌/◌, ◌%◌, ◌*◌, ◌<◌, ◌≤◌, Bool, true, false, ◌&&◌, eqb, ltb, ◌⊎◌, List, [], ◌∷◌, ◌++◌, length, get_or, drop, Ok, Err, Result, refl, ◌∙◌, inl, inr, arith}
use Rattle.std.proofs.lemmas.List.{get_or-drop, drop-drop, drop_more}
use Rattle.std.proofs.lemmas.Bool.{lt-ltb, ltb-true}
use Rattle.model.specs.Steps.{and_then, demand}
use Rattle.model.specs.Table.{two, ops, shape, field_limit, target_limit, operands_fault, fields_fault, entries_end, position, count, within, most_instructions}
use Rattle.model.specs.Encoding.{Bytes, six}
use Rattle.model.specs.declared.code.Kind.{Kind}
use Rattle.model.specs.declared.code.Kind.TheVariants.{Source, Translated}
use Rattle.model.specs.declared.code.Limits.{Limits}
use Rattle.model.specs.declared.code.Shape.{Shape}

-- a chain of checks that passes has passed each of them
pub passed : {A B E : Type 0} (r : Result A E) (next : A → Result B E) (y : B)
    → and_then r next ≡ Ok y → (x : A) × (r ≡ Ok x) × (next x ≡ Ok y)
passed (Ok x) next y h = (x, refl, h)
passed (Err e) next y h = let z : ◌≡◌ {A = ℕ} 0 1 = cc in absurd (omega arith)

pub demanded : {E : Type 0} (b : Bool) (f : E) → demand b f ≡ Ok tt → b ≡ true
demanded true f h = refl
demanded false f h = let z : ◌≡◌ {A = ℕ} 0 1 = cc in absurd (omega arith)

pub passed_demand : {B E : Type 0} (b : Bool) (f : E) (next : Unit {0} → Result B E) (y : B)
    → and_then (demand b f) next ≡ Ok y → (b ≡ true) × (next tt ≡ Ok y)
passed_demand b f next y h = let a = passed (demand b f) next y h in (demanded b f a.1, a.2)

-- and what passes each of them passes the chain
pub pass : {A B E : Type 0} (r : Result A E) (next : A → Result B E) (x : A) (y : Result B E)
    → r ≡ Ok x → next x ≡ y → and_then r next ≡ y
pass r next x y e h = rw e h

pub demand_met : {E : Type 0} (b : Bool) (f : E) → b ≡ true → demand b f ≡ Ok tt
demand_met b f e = rw e

pub pass_demand : {B E : Type 0} (b : Bool) (f : E) (next : Unit {0} → Result B E)
    (y : Result B E) → b ≡ true → next tt ≡ y → and_then (demand b f) next ≡ y
pass_demand b f next y e h = pass (demand b f) next tt y (demand_met b f e) h

-- the end that the entries name lies at or behind the place that they start from
pub entries_onward : (k : Kind) (bs : List ℕ) (thread at n end : ℕ) → entries_end k bs thread at n ≡ Ok end → at ≤ end
entries_onward k bs thread at zero end h =
    let same : at ≡ end = cc in
    omega arith
entries_onward k bs thread at (suc n) end h =
    let a = passed_demand (eqb (position bs thread) at && within 1 (count bs thread) (most_instructions k)) _ _ end h in
    omega (arith, entries_onward k bs (thread + 1) (at + 6 * count bs thread) n end a.1)

-- the limits of a thread's operands: g registers, m words, n instructions
abbrev pub limits_for : Kind → ℕ → ℕ → ℕ → Limits
limits_for k g m n = record { ops = ops k; registers = g; words = m; count = n }

pub ops_cases : (k : Kind) → (ops k ≡ 13) ⊎ (ops k ≡ 17)
ops_cases Source = inl refl
ops_cases Translated = inr refl

-- the fields of an instruction within what its op and the limits ask
abbrev pub FieldsFit : Limits → ℕ → ℕ → ℕ → ℕ → ℕ → Type 0
FieldsFit l op p q r t =
    (op < l.ops) × (p < field_limit l (shape op).p) × (q < field_limit l (shape op).q)
    × (r < field_limit l (shape op).r) × (t < target_limit l (shape op).aims)

pass_operands : (l : Limits) (s : Shape) (at p q r t : ℕ)
    → p < field_limit l s.p → q < field_limit l s.q → r < field_limit l s.r → t < target_limit l s.aims
    → operands_fault l s at p q r t ≡ Ok tt
pass_operands l s at p q r t hp hq hr ht =
    rw (
      lt-ltb p (field_limit l s.p) hp,
      lt-ltb q (field_limit l s.q) hq,
      lt-ltb r (field_limit l s.r) hr,
      lt-ltb t (target_limit l s.aims) ht,
    )

pub pass_fields : (l : Limits) (at op p q r t : ℕ) → FieldsFit l op p q r t → fields_fault l at op p q r t ≡ Ok tt
pass_fields l at op p q r t h =
    rw (lt-ltb op l.ops h.0) (pass_operands l (shape op) at p q r t h.1 h.2 h.3 h.4)

pub passed_fields : (l : Limits) (at op p q r t : ℕ) → fields_fault l at op p q r t ≡ Ok tt → FieldsFit l op p q r t
passed_fields l at op p q r t h =
    let a = passed_demand (ltb op l.ops) _ _ _ h in
    let b = passed_demand (ltb p (field_limit l (shape op).p)) _ _ _ a.1 in
    let c = passed_demand (ltb q (field_limit l (shape op).q)) _ _ _ b.1 in
    let d = passed_demand (ltb r (field_limit l (shape op).r)) _ _ _ c.1 in (
      ltb-true _ _ a.0,
      ltb-true _ _ b.0,
      ltb-true _ _ c.0,
      ltb-true _ _ d.0,
      ltb-true _ _ (demanded _ _ d.1),
    )

-- what stands at and after a position
byte_from : (bs : List ℕ) (at k j : ℕ) (ys : List ℕ) → drop at bs ≡ ys → j ≡ at + k → get_or bs j 0 ≡ get_or ys k 0
byte_from bs at k j ys e q = rw (q, ← get_or-drop at bs k 0, e)

pub drop_from : (bs : List ℕ) (at k j : ℕ) (ys : List ℕ) → drop at bs ≡ ys → j ≡ at + k → drop j bs ≡ drop k ys
drop_from bs at k j ys e q = rw (q, ← drop-drop k at bs, e)

pub two_from : (bs : List ℕ) (at k j n : ℕ) (ys zs : List ℕ)
    → drop at bs ≡ ys → j ≡ at + k → drop k ys ≡ n % 256 ∷ n / 256 ∷ zs → two bs j ≡ n
two_from bs at k j n ys zs e q d =
    let f : drop j bs ≡ n % 256 ∷ n / 256 ∷ zs = drop_from bs at k j ys e q ∙ d in
    let low = byte_from bs j 0 j (n % 256 ∷ n / 256 ∷ zs) f (omega arith) in
    let high = byte_from bs j 1 (j + 1) (n % 256 ∷ n / 256 ∷ zs) f refl in
    omega arith

-- the fields that six bytes spell
pub fields_from : {A : Type 0} (f : ℕ → ℕ → ℕ → ℕ → ℕ → A) (bs : List ℕ) (at op p q r t : ℕ) (rest : List ℕ)
    → drop at bs ≡ six op p q r t ++ rest
    → f (get_or bs at 0) (get_or bs (at + 1) 0) (get_or bs (at + 2) 0) (get_or bs (at + 3) 0) (two bs (at + 4)) ≡ f op p q r t
fields_from f bs at op p q r t rest e =
    let ys = six op p q r t ++ rest in
    let a = byte_from bs at 0 at ys e (omega arith) in
    let b = byte_from bs at 1 (at + 1) ys e refl in
    let c = byte_from bs at 2 (at + 2) ys e refl in
    let d = byte_from bs at 3 (at + 3) ys e refl in
    let g = two_from bs at 4 (at + 4) t ys rest e refl refl in
    cc

-- the bytes of a byte string are below 256, and two of them make the number that is their halves
byte_below : (bs : List ℕ) (i : ℕ) → Bytes bs → get_or bs i 0 < 256
byte_below [] i h = omega arith
byte_below (b ∷ bs) zero h = h.0
byte_below (b ∷ bs) (suc i) h = byte_below bs i h.1

pub drop_two : (bs : List ℕ) (at next : ℕ) → Bytes bs → next ≡ at + 2 → next ≤ length bs
    → drop at bs ≡ two bs at % 256 ∷ two bs at / 256 ∷ drop next bs
drop_two bs at next h e l =
    let low : get_or bs at 0 ≡ two bs at % 256 = omega (arith, byte_below bs at h) in
    let high : get_or bs (at + 1) 0 ≡ two bs at / 256 = omega (arith, byte_below bs at h) in
    let a = drop_more bs at 0 (omega arith) in
    let b = drop_more bs (at + 1) 0 (omega arith) in
    let c : at + 1 + 1 ≡ next = omega arith in
    cc

pub drop_six : (bs : List ℕ) (at : ℕ) → Bytes bs → at + 6 ≤ length bs
    → drop at bs
    ≡ six (get_or bs at 0) (get_or bs (at + 1) 0) (get_or bs (at + 2) 0) (get_or bs (at + 3) 0) (two bs (at + 4)) ++ drop (at + 6) bs
drop_six bs at h l =
    let a = drop_more bs at 0 (omega arith) in
    let b = drop_more bs (at + 1) 0 (omega arith) in
    let c = drop_more bs (at + 2) 0 (omega arith) in
    let d = drop_more bs (at + 3) 0 (omega arith) in
    let e = drop_two bs (at + 4) (at + 6) h (omega arith) l in
    let second : at + 1 + 1 ≡ at + 2 = omega arith in
    let third : at + 2 + 1 ≡ at + 3 = omega arith in
    let fourth : at + 3 + 1 ≡ at + 4 = omega arith in
    cc
