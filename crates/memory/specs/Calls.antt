-- The calls of a memory as values: what each answers and leaves, and what many do one after another.
use Rattle.std.specs.Prelude.{List, [], ◌∷◌, Ok}
use Rattle.std.specs.Option.{unwrap_or}
use Rattle.model.specs.Memory.{Memory, Answer, cleared, look, word, idle, put, drain, exchange, said, left, swapped, swap_left}
use Rattle.model.specs.Steps.{and_then}
use Rattle.memory.specs.declared.calls.Call.{Call}
use Rattle.memory.specs.declared.calls.Call.TheVariants as call
use Rattle.memory.specs.declared.calls.Reply.{Reply}
use Rattle.memory.specs.declared.calls.Reply.TheVariants.{Done, Number, Exchanged}

abbrev pub reply : Memory → Call → Answer Reply
reply m call.Clear = Ok Done
reply m (call.Look t x) = and_then (look m t x) (λ n. Ok (Number n))
reply m (call.Word x) = and_then (word m x) (λ n. Ok (Number n))
reply m (call.Idle t) = and_then (idle m t) (λ n. Ok (Number n))
-- a memory with no limit would say 0; every memory that runs has one
reply m call.Depth = Ok (Number (unwrap_or m.depth 0))
reply m (call.Put t x v) = and_then (said (put m t x v)) (λ _. Ok Done)
reply m (call.Drain t) = and_then (said (drain m t)) (λ _. Ok Done)
reply m (call.Exchange x e v) = and_then (swapped (exchange m x e v)) (λ b. Ok (Exchanged b))

abbrev pub next : Memory → Call → Memory
next m call.Clear = cleared m
next m (call.Look t x) = m
next m (call.Word x) = m
next m (call.Idle t) = m
next m call.Depth = m
next m (call.Put t x v) = left m (put m t x v)
next m (call.Drain t) = left m (drain m t)
next m (call.Exchange x e v) = swap_left m (exchange m x e v)

-- the value that calls one after another leave, and what they answer
abbrev pub called : Memory → List Call → Memory
called m [] = m
called m (c ∷ cs) = called (next m c) cs

abbrev pub replies : Memory → List Call → List (Answer Reply)
replies m [] = []
replies m (c ∷ cs) = reply m c ∷ replies (next m c) cs
