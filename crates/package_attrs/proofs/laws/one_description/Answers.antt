use Rattle.package_attrs.proofs.PackageLaws.{one_description}
use Rattle.package_attrs.proofs.laws.one_description.Goals as goal

pub returns : goal.returns
returns c = one_description
