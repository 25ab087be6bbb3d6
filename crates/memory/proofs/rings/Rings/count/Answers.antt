-- Written, since the check does not join the length of a ring to its count.
use Rattle.std.proofs.Common.{◌<◌, rules, arith}
use Rattle.std.proofs.lemmas.Grind.{common_steps}
use Rattle.memory.proofs.Ring.{length_queue}
use Rattle.memory.proofs.rings.Rings.count.Goals as goal

pub returns : goal.returns
returns c =
    let lt : c.args.thread < 4 = search rules in
    let e = length_queue c.self.inside.places c.self.inside.spans c.args.thread lt in
    grind (arith, common_steps, e)
