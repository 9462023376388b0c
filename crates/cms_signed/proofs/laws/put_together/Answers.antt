use Rattle.cms_signed.proofs.OutlineLemmas.{at_cut, put_together}
use Rattle.cms_signed.proofs.laws.put_together.Goals as goal

pub returns : goal.returns
returns c seen place size item is sees =
    put_together seen.frame place size seen.count item (at_cut seen.frame seen.cut seen.count item place size is sees)
