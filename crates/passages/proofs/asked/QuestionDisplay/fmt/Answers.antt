-- Written, since of the eight texts the check does not find this one.
use Rattle.passages.proofs.asked.QuestionDisplay.fmt.Goals as goal

pub returns-in-Look-clause-writes : goal.returns-in-Look-clause-writes
returns-in-Look-clause-writes g c = simp c.in-Look.is c.write-in-Look.ensures.writes
