use Rattle.constraint_meet.proofs.TestLemmas.{covers_tells, members_tell}
use Rattle.constraint_meet.proofs.laws.tests_tell.Goals as goal

pub returns-clause-covers : goal.returns-clause-covers
returns-clause-covers c = covers_tells

pub returns-clause-permits : goal.returns-clause-permits
returns-clause-permits c = members_tell
