use Rattle.load_claims.proofs.Below.{one_at}
use Rattle.load_claims.proofs.Whole.{same_verdicts}
use Rattle.load_claims.proofs.laws.one_list_of_verdicts.Goals as goal

pub returns : goal.returns
returns c = record { same = λ m at start items some other first second size. same_verdicts m at (one_at c.one_verdict_each.ensures m at) start items some other first second size }
