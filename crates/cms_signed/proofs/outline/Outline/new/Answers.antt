use Rattle.cms_signed.proofs.OutlineLemmas.{none_yet}
use Rattle.std.proofs.Common.{refl}
use Rattle.cms_signed.proofs.outline.Outline.new.Goals as goal

pub returns : goal.returns
returns c = record { fresh = (none_yet, c.new.ensures.items, refl) }
