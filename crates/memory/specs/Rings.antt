-- Four rings of 64 places, one for each thread: what they hold.
use Rattle.std.specs.Prelude.{ℕ, ◌+◌, ◌*◌, ◌%◌, List, [], map, Some, slice_index_or}
use Rattle.std.specs.List.{range_with_len}
use Rattle.std.proofs.Common.{lit<, lit≤}
use Rattle.model.specs.Memory.{Memory}
use Rattle.model.specs.declared.state.Store.{Store}
use Rattle.memory.specs.declared.span.Span.{Span}

abbrev pub no_store : Store
no_store = record { word = 0; value = 0 }

abbrev pub no_span : Span
no_span = record { head = 0; count = 0; turned = lit< tt; counted = lit≤ tt }

-- the place of a thread that is so many steps from its first
abbrev pub place : ℕ → ℕ → ℕ
place t steps = 64 * t + steps % 64

-- so many stores from a head on
abbrev pub ring : List Store → ℕ → ℕ → ℕ → List Store
ring ps t head n = map (λ k. slice_index_or ps (place t (head + k)) no_store) (range_with_len 0 n)

abbrev pub span_of : List Span → ℕ → Span
span_of ss t = slice_index_or ss t no_span

abbrev pub ring_of : List Store → List Span → ℕ → List Store
ring_of ps ss t = ring ps t (span_of ss t).head (span_of ss t).count

abbrev pub rings : List Store → List Span → List (List Store)
rings ps ss = map (ring_of ps ss) (range_with_len 0 4)

-- a memory of these words and lists, of depth 64
abbrev pub queue_value : List ℕ → List (List Store) → Memory
queue_value ws ls = record { words = ws; pending = ls; depth = Some 64 }

-- the pending stores of a thread, oldest first
abbrev pub queue : List (List Store) → ℕ → List Store
queue ls t = slice_index_or ls t []
