use Rattle.package_attrs.proofs.ReadingLemmas.{one_image}
use Rattle.package_attrs.proofs.laws.one_image.Goals as goal

pub returns : goal.returns
returns c = one_image
