-- How answers that may be refusals follow one another.
use Rattle.std.specs.Prelude.{Bool, true, false, Ok, Err, Result}

-- an answer goes on, a refusal stops
abbrev pub and_then : {A B E : Type 0} → Result A E → (A → Result B E) → Result B E
and_then (Ok x) next = next x
and_then (Err e) next = Err e

-- goes on if the test holds, refuses by the fault otherwise
abbrev pub demand : {E : Type 0} → Bool → E → Result (Unit {0}) E
demand true f = Ok tt
demand false f = Err f
