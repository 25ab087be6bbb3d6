-- Written, since the check does not compute four empty rings.
use Rattle.std.proofs.Common.{◌<◌, lit<}
use Rattle.std.proofs.lemmas.List.Elements.{All-replicate}
use Rattle.memory.specs.Rings.{no_store}
use Rattle.memory.proofs.rings.Rings.new.Goals as goal

pub invariant_of-result-2 : goal.invariant_of-result-2
invariant_of-result-2 c = All-replicate (λ s. s.word < 8) 256 no_store (lit< tt)
