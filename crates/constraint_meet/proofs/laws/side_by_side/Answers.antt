use Rattle.constraint_meet.proofs.Members.{both, path}
use Rattle.constraint_meet.proofs.laws.side_by_side.Goals as goal

pub returns-clause-both : goal.returns-clause-both
returns-clause-both c = both

pub returns-clause-path : goal.returns-clause-path
returns-clause-path c = path
