-- Written, since the lemma's depth is not in its conclusion: named at the function, it is not found.
use Rattle.model.proofs.Limits.{limits_only_refuse_lem}
use Rattle.model.proofs.laws.limits_only_refuse.Goals as goal

pub returns : goal.returns
returns c = limits_only_refuse_lem
