use Rattle.judge_core.proofs.AllVerdicts.{has_verdict}
use Rattle.judge_core.proofs.item_laws.no_item_is_without_a_verdict.Goals as goal

pub returns : goal.returns
returns c = record { one = has_verdict }
