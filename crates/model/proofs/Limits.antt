-- A limit of depth only refuses: with it taken away, all that is accepted is accepted with the same end.
use Rattle.std.proofs.Common.{◌≡◌, ℕ, ◌≤◌, Bool, true, false, cond, eqb, ltb, List, [], ◌∷◌, length, Some, None, Ok, Err, Option, Result, sym, subst, arith}
use Rattle.std.proofs.lemmas.Bool.{ne_eqb}
use Rattle.model.specs.Action.{Action, stuck, quiet, reads, writes, fences, swaps, opens, shuts, about, can_go}
use Rattle.model.specs.Memory.{Memory, Answer, thread_there, word_there, pending_of, word_of, look, idle, stored, appended, written, put, drained, drain, exchange}
use Rattle.model.specs.Sanity.{boundless, LimitsOnlyRefuse}
use Rattle.model.specs.Steps.{and_then}
use Rattle.model.specs.StoreBuffer.{Machine, lifted, Moved, if_idle, performed, stepped_by, moved, line, lines}
use Rattle.model.specs.Table.{Program}
use Rattle.model.specs.declared.code.Instruction.{Instruction}
use Rattle.model.specs.declared.faults.MachineFault.{MachineFault}
use Rattle.model.specs.declared.faults.MemoryFault.TheVariants.{Full}
use Rattle.model.specs.declared.places.Place.{Place}
use Rattle.model.specs.declared.state.Act.{Act}
use Rattle.model.specs.declared.state.Act.TheVariants.{Step, Drain}
use Rattle.model.specs.declared.state.Line.{Line}
use Rattle.model.specs.declared.state.Store.{Store}
use Rattle.model.specs.declared.state.Thread.{Thread}
use Rattle.model.specs.declared.state.Way.{Way}

-- the second answers what the first does, changed by f; the first's answer is as P says
data Follows {A E : Type 0} (f : A → A) (P : A → Type 0) : Result A E → Result A E → Type 0 where
  answers : {x : A} → P x → Follows f P (Ok x) (Ok (f x))
  refuses : {e : E} {r : Result A E} → Follows f P (Err e) r

module _ {A E : Type 0} {f : A → A} {P : A → Type 0} where
  follows_answer : {r q : Result A E} (y : A) → Follows f P r q → r ≡ Ok y → q ≡ Ok (f y)
  follows_answer y (answers h) e = cc
  follows_answer y refuses e = let z : ◌≡◌ {A = ℕ} 0 1 = cc in absurd (omega arith)

  follows_if : (b : Bool) {x y x' y' : Result A E} → Follows f P x x' → Follows f P y y'
      → Follows f P (cond b x y) (cond b x' y')
  follows_if true h k = h
  follows_if false h k = k

  follows_then : {B : Type 0} {g : B → B} {Q : B → Type 0} {r q : Result A E} (next next' : A → Result B E)
      → Follows f P r q → ((x : A) → P x → Follows g Q (next x) (next' (f x))) → Follows g Q (and_then r next) (and_then q next')
  follows_then next next' (answers {x} h) k = k x h
  follows_then next next' refuses k = refuses

-- both ask the same
same_answer : {A E : Type 0} (r : Result A E) → Follows (λ x. x) (λ _. Unit {0}) r r
same_answer (Ok x) = answers tt
same_answer (Err e) = refuses

lifted_follows : {A : Type 0} {f : A → A} {P : A → Type 0} {r q : Answer A} → Follows f P r q → Follows f P (lifted r) (lifted q)
lifted_follows (answers h) = answers h
lifted_follows refuses = refuses

-- a memory, and what goes with one, without the limit
abbrev deep : Memory → Memory
deep m = record { words = m.words; pending = m.pending; depth = None }

abbrev Limited : ℕ → Memory → Type 0
Limited d m = m.depth ≡ Some d

abbrev Deeper : ℕ → Answer Memory → Answer Memory → Type 0
Deeper d = Follows deep (Limited d)

abbrev DeeperSwap : ℕ → Answer (Bool × Memory) → Answer (Bool × Memory) → Type 0
DeeperSwap d = Follows (λ r. (r.0, deep r.1)) (λ r. Limited d r.1)

abbrev DeeperMove : ℕ → Moved → Moved → Type 0
DeeperMove d = Follows (λ r. (deep r.0, r.1)) (λ r. Limited d r.0)

abbrev DeeperMachine : ℕ → Result Machine MachineFault → Result Machine MachineFault → Type 0
DeeperMachine d = Follows boundless (λ m. Limited d m.memory)

module _ (m : Memory) (t d : ℕ) (some : 1 ≤ d) (limit : Limited d m) where
  stored_follows : (x v : ℕ) (direct room : Bool) → direct ≡ false
      → Deeper d
      (cond direct (Ok (written m x v)) (cond room (Ok (appended m t x v)) (Err (Full t)))) (Ok (appended (deep m) t x v))
  stored_follows x v true room e = let z : ◌≡◌ {A = ℕ} 0 1 = cc in absurd (omega arith)
  stored_follows x v false true e = answers limit
  stored_follows x v false false e = refuses

  put_follows : (x v : ℕ) → Deeper d (put m t x v) (put (deep m) t x v)
  put_follows x v =
      follows_then _ _ (same_answer (thread_there t)) λ _ _.
      follows_then _ _ (same_answer (word_there x)) λ _ _.
      subst (λ o. Deeper d (stored m t x v o) (Ok (appended (deep m) t x v))) (sym limit)
      (stored_follows x v (eqb d 0) (ltb (length (pending_of m t)) d) (ne_eqb d 0 (λ (e : d ≡ 0). omega arith)))

  drained_follows : (ss : List Store) → Deeper d (drained m t ss) (drained (deep m) t ss)
  drained_follows [] = refuses
  drained_follows (s ∷ ss) = answers limit

  drain_follows : Deeper d (drain m t) (drain (deep m) t)
  drain_follows = follows_then _ _ (same_answer (thread_there t)) λ _ _. drained_follows (pending_of m t)

  swapped_follows : (b : Bool) (x v : ℕ)
      → DeeperSwap d
      (Ok (cond b (true, written m x v) (false, m))) (Ok (cond b (true, written (deep m) x v) (false, deep m)))
  swapped_follows true x v = answers limit
  swapped_follows false x v = answers limit

  exchange_follows : (x e v : ℕ) → DeeperSwap d (exchange m x e v) (exchange (deep m) x e v)
  exchange_follows x e v =
      follows_then _ _ (same_answer (word_there x)) λ _ _. swapped_follows (eqb (word_of m x) e) x v

  if_idle_follows : (at : Place) {next next' : Moved} → DeeperMove d next next'
      → DeeperMove d (if_idle m t at next) (if_idle (deep m) t at next')
  if_idle_follows at h =
      follows_then _ _ (same_answer (lifted (idle m t))) λ n _. follows_if (eqb n 0) h refuses

  performed_follows : (at : Place) (a : Action)
      → DeeperMove d (performed m t at a) (performed (deep m) t at a)
  performed_follows at stuck = refuses
  performed_follows at (quiet th) = answers limit
  performed_follows at (reads x f) = follows_then _ _ (same_answer (lifted (look m t x))) λ _ _. answers limit
  performed_follows at (writes x v th) =
      follows_then _ _ (lifted_follows (put_follows x v)) λ _ h. answers h
  performed_follows at (fences th) = if_idle_follows at (answers limit)
  performed_follows at (swaps x e v th) =
      if_idle_follows at
      (follows_then _ _ (lifted_follows (exchange_follows x e v)) λ r h. follows_if r.0 (answers h) refuses)
  performed_follows at (opens th) = refuses
  performed_follows at (shuts th) = refuses

  stepped_follows : (th : Thread) (at : Place) (w : Way) (i : Option Instruction)
      → DeeperMove d (stepped_by m t th at w i) (stepped_by (deep m) t th at w i)
  stepped_follows th at w None = refuses
  stepped_follows th at w (Some i) =
      follows_if (can_go i w) (performed_follows at (about i w th)) refuses

module _ (p : Program) (d : ℕ) (some : 1 ≤ d) where
  moved_follows : (m : Machine) (t : ℕ) (a : Act) → Limited d m.memory
      → DeeperMove d (moved p m t a) (moved p (boundless m) t a)
  moved_follows m t (Step w) limit = stepped_follows m.memory t d some limit _ _ w _
  moved_follows m t Drain limit = follows_then _ _ (lifted_follows (drain_follows m.memory t d some limit)) λ _ h. answers h

  line_follows : (m : Machine) (l : Line) → Limited d m.memory
      → DeeperMachine d (line p m l) (line p (boundless m) l)
  line_follows m l limit =
      follows_if (ltb l.thread (length p.code))
      (follows_then _ _ (moved_follows m l.thread l.act limit) λ _ h. answers h) refuses

  lines_follow : (m : Machine) (ls : List Line) → Limited d m.memory
      → DeeperMachine d (lines p m ls) (lines p (boundless m) ls)
  lines_follow m [] limit = answers limit
  lines_follow m (l ∷ ls) limit = follows_then _ _ (line_follows m l limit) λ n h. lines_follow n ls h

pub limits_only_refuse_lem : LimitsOnlyRefuse
limits_only_refuse_lem p m m' d ls limit some h = follows_answer m' (lines_follow p d some m ls limit) h
