use Rattle.std.proofs.Common.{◌≡◌}
use Rattle.model.specs.Memory.{latest}
use Rattle.memory.specs.Rings.{ring, queue}
use Rattle.memory.proofs.rings.Rings.latest.Given as goal

-- the stores that are left decide
abbrev pub invariant-loop-steps : goal.invariant-loop-steps
invariant-loop-steps l =
    latest (ring l.self-inside.places l.thread l.head l.steps) l.word l.held ≡ latest (queue l.self l.thread) l.word l.held
