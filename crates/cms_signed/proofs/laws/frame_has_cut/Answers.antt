use Rattle.cms_signed.proofs.OutlineLemmas.{at_cut, frame_cut}
use Rattle.cms_signed.proofs.laws.frame_has_cut.Goals as goal

pub returns : goal.returns
returns c seen place size item is sees =
    frame_cut seen.frame place size seen.count item (at_cut seen.frame seen.cut seen.count item place size is sees)
