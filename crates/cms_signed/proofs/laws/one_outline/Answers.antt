use Rattle.cms_signed.proofs.OutlineLemmas.{one_view}
use Rattle.cms_signed.proofs.laws.one_outline.Goals as goal

pub returns : goal.returns
returns c seen other item h g = one_view seen other item h g
