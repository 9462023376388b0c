use Rattle.fwload_top.proofs.OneAnswer.{one_verdict, one_answer}
use Rattle.fwload_top.proofs.laws.one_rehearsal.Goals as goal

pub returns-clause-verdict : goal.returns-clause-verdict
returns-clause-verdict c = one_verdict

pub returns-clause-answer : goal.returns-clause-answer
returns-clause-answer c = one_answer
