use Rattle.cms_signed.proofs.OutlineLemmas.{one_cut}
use Rattle.cms_signed.proofs.laws.one_content.Goals as goal

pub returns : goal.returns
returns c item place size other count h g = one_cut item place size other count h g
