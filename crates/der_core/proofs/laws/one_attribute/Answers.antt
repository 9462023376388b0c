use Rattle.der_core.proofs.AttributeLaws.{one_attribute}
use Rattle.der_core.proofs.laws.one_attribute.Goals as goal

pub returns : goal.returns
returns c = one_attribute
