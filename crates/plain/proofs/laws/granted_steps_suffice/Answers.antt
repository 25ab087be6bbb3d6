-- Written, since the lemmas named at the function are not found: their definitions are out of its reach.
use Rattle.plain.proofs.Law.{suffice, taken, new_runs}
use Rattle.plain.proofs.laws.granted_steps_suffice.Goals as goal

pub returns : goal.returns
returns c = record { calls = suffice; bytes = taken; runs = new_runs }
