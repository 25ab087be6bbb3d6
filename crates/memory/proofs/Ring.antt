-- The rings as lists: one more store at a ring's end, one less at its head, and what the other rings keep.
use Rattle.std.proofs.Common.{◌≡◌, ℕ, zero, suc, ◌+◌, ◌-◌, ◌%◌, ◌<◌, ◌≢◌, List, [], ◌∷◌, ◌++◌, map, length, get_or, set, drop, cond, ◌==◌, sym, refl, ap, ◌∙◌, ⊎_elim, arith}
use Rattle.std.specs.List.{range_with_len}
use Rattle.std.proofs.lemmas.Bool.{cases_eq}
use Rattle.std.proofs.lemmas.List.{same_lists, get_or-set_same, get_or-set_other, length-set}
use Rattle.std.proofs.lemmas.List.FromFn.{get_or-map-range_with_len, length-map-range_with_len, map-range_with_len_more}
use Rattle.model.specs.Memory.{latest}
use Rattle.model.specs.declared.state.Store.{Store}
use Rattle.memory.specs.declared.span.Span.{Span}
use Rattle.memory.specs.Rings.{no_store, no_span, place, ring, span_of, ring_of, rings, queue}

pub queue_is : (ps : List Store) (ss : List Span) (t : ℕ) → t < 4 → queue (rings ps ss) t ≡ ring_of ps ss t
queue_is ps ss t lt = get_or-map-range_with_len (ring_of ps ss) 0 4 t t [] lt (omega arith)

pub length_queue : (ps : List Store) (ss : List Span) (t : ℕ) → t < 4 → length (queue (rings ps ss) t) ≡ (span_of ss t).count
length_queue ps ss t lt =
    ap length (queue_is ps ss t lt)
    ∙ length-map-range_with_len (λ k. get_or ps (place t ((span_of ss t).head + k)) no_store) 0 (span_of ss t).count

-- two functions that agree step by step give one list
same_maps : {X : Type 0} (f g : ℕ → X) (a b n : ℕ) → ((k : ℕ) → k < n → f (a + k) ≡ g (b + k)) → map f (range_with_len a n) ≡ map g (range_with_len b n)
same_maps f g a b n same =
    same_lists (map f (range_with_len a n)) (map g (range_with_len b n)) (length-map-range_with_len f a n ∙ sym (length-map-range_with_len g b n)) (λ k d lt. (
    let here : k < n = omega (arith, length-map-range_with_len f a n) in
    get_or-map-range_with_len f a n k (a + k) d here refl ∙ same k here ∙ sym (get_or-map-range_with_len g b n k (b + k) d here refl)))

-- a write at no place of the ring leaves it
pub ring_apart : (ps : List Store) (t at : ℕ) (s : Store) (n head : ℕ) → ((i : ℕ) → i < n → place t (head + i) ≢ at) → ring (set ps at s) t head n ≡ ring ps t head n
ring_apart ps t at s n head apart =
    same_maps _ (λ i. get_or ps (place t (head + i)) no_store) 0 0 n
    (λ k l. get_or-set_other ps at (place t (head + (0 + k))) s no_store
    (λ e. let here : head + k ≡ head + (0 + k) = omega arith in apart k l (ap (place t) here ∙ e)))

-- a write at the place after the last
pub ring_push : (ps : List Store) (t : ℕ) (s : Store) (head n : ℕ) → t < 4 → n < 64 → length ps ≡ 256 → ring (set ps (place t (head + n)) s) t head (n + 1) ≡ ring ps t head n ++ s ∷ []
ring_push ps t s head n lt few long =
    let within : place t (head + n) < length ps = omega arith in
    map-range_with_len_more (λ k. get_or (set ps (place t (head + n)) s) (place t (head + k)) no_store) 0 n n (omega arith)
    ∙ ap (λ (o : Store). ring (set ps (place t (head + n)) s) t head n ++ o ∷ []) (get_or-set_same ps (place t (head + n)) s no_store within)
    ∙ ap (λ (ss : List Store). ss ++ s ∷ []) (ring_apart ps t (place t (head + n)) s n head (λ i l e. omega arith))

-- a write at a place of another thread
pub ring_other : (ps : List Store) (t k : ℕ) (s : Store) (steps head n : ℕ) → k ≢ t → ring (set ps (place t steps) s) k head n ≡ ring ps k head n
ring_other ps t k s steps head n ne =
    ring_apart ps k (place t steps) s n head (λ i l e. ne (omega arith))

-- the first store of a ring, and the ring behind it
pub ring_first : (ps : List Store) (t head n : ℕ) → 0 < n → ring ps t head n ≡ get_or ps (place t (head + 0)) no_store ∷ ring ps t ((head + 1) % 64) (n - 1)
ring_first ps t head zero some = absurd (omega arith)
ring_first ps t head (suc n) some =
    let one : suc n - 1 ≡ n = omega arith in
    let rest : map (λ k. get_or ps (place t (head + k)) no_store) (range_with_len 1 n) ≡ ring ps t ((head + 1) % 64) n =
    same_maps (λ k. get_or ps (place t (head + k)) no_store) (λ k. get_or ps (place t ((head + 1) % 64 + k)) no_store) 1 0 n
    (λ k l. ap (λ (i : ℕ). get_or ps i no_store) (omega arith)) in
    cc

-- one ring anew, and the others as they were
one_anew : (ps qs : List Store) (ss us : List Span) (t : ℕ) → t < 4 → (y : List Store) → ring_of qs us t ≡ y → ((k : ℕ) → k ≢ t → ring_of qs us k ≡ ring_of ps ss k) → rings qs us ≡ set (rings ps ss) t y
one_anew ps qs ss us t lt y here there =
    same_lists (rings qs us) (set (rings ps ss) t y) (sym (length-set (rings ps ss) t y))
    (λ k d l. ⊎_elim
    (λ (e : k ≡ t). get_or-map-range_with_len (ring_of qs us) 0 4 k t d l (omega arith) ∙ here
    ∙ sym (ap (λ (j : ℕ). get_or (set (rings ps ss) t y) j d) e ∙ get_or-set_same (rings ps ss) t y d lt))
    (λ (ne : k ≢ t). get_or-map-range_with_len (ring_of qs us) 0 4 k k d l (omega arith) ∙ there k ne
    ∙ sym (get_or-map-range_with_len (ring_of ps ss) 0 4 k k d l (omega arith))
    ∙ sym (get_or-set_other (rings ps ss) t k y d ne))
    (cases_eq k t))

-- a store at the first free place of a thread, and the oldest one gone
module _ (ps : List Store) (ss : List Span) (t : ℕ) (lt : t < 4) (sp : Span) (four : length ss ≡ 4) where
  pub stored : (s : Store) (at : ℕ) → at ≡ place t ((span_of ss t).head + (span_of ss t).count) → sp.head ≡ (span_of ss t).head → sp.count ≡ (span_of ss t).count + 1 → (span_of ss t).count < 64 → length ps ≡ 256 → rings (set ps at s) (set ss t sp) ≡ set (rings ps ss) t (queue (rings ps ss) t ++ s ∷ [])
  stored s at free head count few long =
      let same : span_of (set ss t sp) t ≡ sp = get_or-set_same ss t sp no_span (omega arith) in
      let own : ring_of (set ps at s) (set ss t sp) t ≡ queue (rings ps ss) t ++ s ∷ [] =
      rw (same, head, count, free, queue_is ps ss t lt) (ring_push ps t s (span_of ss t).head (span_of ss t).count lt few long) in
      one_anew ps (set ps at s) ss (set ss t sp) t lt (queue (rings ps ss) t ++ s ∷ []) own (λ k ne.
      rw (get_or-set_other ss t k sp no_span ne, free) (ring_other ps t k s ((span_of ss t).head + (span_of ss t).count) (span_of ss k).head (span_of ss k).count ne))

  pub taken : sp.head ≡ ((span_of ss t).head + 1) % 64 → sp.count ≡ (span_of ss t).count - 1 → 0 < (span_of ss t).count → rings ps (set ss t sp) ≡ set (rings ps ss) t (drop 1 (queue (rings ps ss) t))
  taken head count some =
      let same : span_of (set ss t sp) t ≡ sp = get_or-set_same ss t sp no_span (omega arith) in
      let own : ring_of ps (set ss t sp) t ≡ drop 1 (queue (rings ps ss) t) =
      rw (same, head, count, queue_is ps ss t lt, ring_first ps t (span_of ss t).head (span_of ss t).count some) refl in
      one_anew ps ps ss (set ss t sp) t lt (drop 1 (queue (rings ps ss) t)) own (λ k ne.
      rw (get_or-set_other ss t k sp no_span ne) refl)

-- the last store to a word decides
pub latest_push : (ss : List Store) (s : Store) (x v : ℕ) → latest (ss ++ s ∷ []) x v ≡ cond (s.word == x) s.value (latest ss x v)
latest_push [] s x v = refl
latest_push (o ∷ ss) s x v = latest_push ss s x (cond (o.word == x) o.value v)

pub latest_more : (ps : List Store) (t head n x v : ℕ) → 0 < n → latest (ring ps t head n) x v ≡ cond ((get_or ps (place t (head + (n - 1))) no_store).word == x) (get_or ps (place t (head + (n - 1))) no_store).value (latest (ring ps t head (n - 1)) x v)
latest_more ps t head n x v some =
    let one : n ≡ (n - 1) + 1 = omega arith in
    ap (λ (m : ℕ). latest (ring ps t head m) x v) one
    ∙ ap (λ (ss : List Store). latest ss x v) (map-range_with_len_more (λ k. get_or ps (place t (head + k)) no_store) 0 (n - 1) (n - 1) (omega arith))
    ∙ latest_push (ring ps t head (n - 1)) (get_or ps (place t (head + (n - 1))) no_store) x v
