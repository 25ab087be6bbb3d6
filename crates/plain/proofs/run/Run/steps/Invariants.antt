use Rattle.std.proofs.Common.{◌≡◌, drop}
use Rattle.model.specs.Runs.{ran_from}
use Rattle.plain.specs.Said.{runs}
use Rattle.plain.proofs.run.Run.steps.Given as goal

-- what is left of the list gives the result
abbrev pub invariant-loop-index : goal.invariant-loop-index
invariant-loop-index l =
    (ran_from (runs l.self) l.self.state l.index (drop l.index l.list) ≡ ran_from (runs l.initial.self) l.initial.self.state 0 l.list)
    × (runs l.self ≡ runs l.initial.self)
