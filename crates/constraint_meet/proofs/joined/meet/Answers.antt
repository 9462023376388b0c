use Rattle.constraint_meet.proofs.Members.{both_permit}
use Rattle.constraint_meet.proofs.joined.meet.Goals as goal

pub returns-clause-both : goal.returns-clause-both
returns-clause-both c = both_permit _ _ c.side_by_side.result c.side_by_side.ensures.members
