use Rattle.std.proofs.Common.{refl}
use Rattle.cms_signed.proofs.WholeItems.{whole}
use Rattle.cms_signed.proofs.laws.whole_item.Goals as goal

pub returns : goal.returns
returns c seen item s sees = whole seen item s sees seen.cut refl
