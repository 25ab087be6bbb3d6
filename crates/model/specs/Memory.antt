-- A memory's value, and what each of its calls answers and leaves.
use Rattle.std.specs.Prelude.{ℕ, Bool, true, false, if◌then◌else◌, List, [], ◌∷◌, ◌++◌, length, replicate, Some, None, Ok, Err, Option, Result, ◌==◌, nat_lt, slice_index, slice_index_or, slice_set}
use Rattle.model.specs.Steps.{and_then, demand}
use Rattle.model.specs.declared.state.Store.{Store}
use Rattle.model.specs.declared.faults.MemoryFault.{MemoryFault}
use Rattle.model.specs.declared.faults.MemoryFault.TheVariants.{NoThread, NoWord, Full, Empty}

-- eight words, the pending stores of each of four threads, oldest first, and the depth; no depth is no limit
pub record Memory : Type 0 where
  pub words : List ℕ
  pub pending : List (List Store)
  pub depth : Option ℕ

abbrev pub Answer : Type 0 → Type 0
Answer A = Result A MemoryFault

abbrev pub thread_there : ℕ → Answer (Unit {0})
thread_there t = demand (nat_lt t 4) (NoThread t)

abbrev pub word_there : ℕ → Answer (Unit {0})
word_there x = demand (nat_lt x 8) (NoWord x)

abbrev pub pending_of : Memory → ℕ → List Store
pending_of m t = slice_index_or m.pending t []

abbrev pub word_of : Memory → ℕ → ℕ
word_of m x = slice_index m.words x

-- the last of these stores to a word, or else the value given
abbrev pub latest : List Store → ℕ → ℕ → ℕ
latest [] x v = v
latest (s ∷ ss) x v = latest ss x (if s.word == x then s.value else v)

abbrev pub with_pending : Memory → ℕ → List Store → Memory
with_pending m t ss = record { words = m.words; pending = slice_set m.pending t ss; depth = m.depth }

abbrev pub written : Memory → ℕ → ℕ → Memory
written m x v = record { words = slice_set m.words x v; pending = m.pending; depth = m.depth }

abbrev pub cleared : Memory → Memory
cleared m = record { words = replicate 8 0; pending = replicate 4 []; depth = m.depth }

-- the questions
abbrev pub look : Memory → ℕ → ℕ → Answer ℕ
look m t x = and_then (thread_there t) (λ _. and_then (word_there x) (λ _. Ok (latest (pending_of m t) x (word_of m x))))

abbrev pub word : Memory → ℕ → Answer ℕ
word m x = and_then (word_there x) (λ _. Ok (word_of m x))

abbrev pub idle : Memory → ℕ → Answer ℕ
idle m t = and_then (thread_there t) (λ _. Ok (length (pending_of m t)))

-- a store at the end of a thread's list
abbrev pub appended : Memory → ℕ → ℕ → ℕ → Memory
appended m t x v = with_pending m t (pending_of m t ++ record { word = x; value = v } ∷ [])

-- depth 0 writes the word; else the store waits, unless depth many or more do already
abbrev pub stored : Memory → ℕ → ℕ → ℕ → Option ℕ → Answer Memory
stored m t x v None = Ok (appended m t x v)
stored m t x v (Some d) =
    if d == 0 then Ok (written m x v) else if nat_lt (length (pending_of m t)) d then Ok (appended m t x v)
    else Err (Full t)

abbrev pub put : Memory → ℕ → ℕ → ℕ → Answer Memory
put m t x v = and_then (thread_there t) (λ _. and_then (word_there x) (λ _. stored m t x v m.depth))

-- the oldest pending store is written and leaves the list
abbrev pub drained : Memory → ℕ → List Store → Answer Memory
drained m t [] = Err (Empty t)
drained m t (s ∷ ss) = Ok (with_pending (written m s.word s.value) t ss)

abbrev pub drain : Memory → ℕ → Answer Memory
drain m t = and_then (thread_there t) (λ _. drained m t (pending_of m t))

-- whether the word had the expected value, and then it has the new one
abbrev pub exchange : Memory → ℕ → ℕ → ℕ → Answer (Bool × Memory)
exchange m x e v =
    and_then (word_there x) (λ _. Ok (if word_of m x == e then (true, written m x v) else (false, m)))

-- of a call that changes a memory: what it answers, and what it leaves, which is the memory as it was if it refuses
abbrev pub said : Answer Memory → Answer (Unit {0})
said (Ok m) = Ok tt
said (Err f) = Err f

abbrev pub left : Memory → Answer Memory → Memory
left m (Ok n) = n
left m (Err f) = m

abbrev pub swapped : Answer (Bool × Memory) → Answer Bool
swapped (Ok r) = Ok r.0
swapped (Err f) = Err f

abbrev pub swap_left : Memory → Answer (Bool × Memory) → Memory
swap_left m (Ok r) = r.1
swap_left m (Err f) = m
