use Rattle.load_claims.proofs.Judging.{have_verdicts}
use Rattle.load_claims.proofs.laws.no_items_are_without_verdicts.Goals as goal

pub returns : goal.returns
returns c = record { all = have_verdicts c.no_item_is_without_a_verdict.ensures.one }
