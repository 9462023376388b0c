use Rattle.constraint_meet.proofs.Members.{own_decides, any_decides}
use Rattle.constraint_meet.proofs.laws.own_entry_decides.Goals as goal

pub returns-clause-own : goal.returns-clause-own
returns-clause-own c = own_decides

pub returns-clause-any : goal.returns-clause-any
returns-clause-any c = any_decides
