use Rattle.der_core.proofs.AttributeLaws.{passed}
use Rattle.der_core.proofs.laws.elements_are_passed.Goals as goal

pub returns : goal.returns
returns c = passed
