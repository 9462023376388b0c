use Rattle.explain_text.proofs.Texts.{one_of_grant}
use Rattle.explain_text.proofs.laws.one_grant_text.Goals as goal

pub returns : goal.returns
returns c = one_of_grant
