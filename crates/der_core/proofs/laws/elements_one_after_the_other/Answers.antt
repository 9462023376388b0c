use Rattle.der_core.proofs.AttributeLaws.{are_elements_says}
use Rattle.der_core.proofs.laws.elements_one_after_the_other.Goals as goal

pub returns : goal.returns
returns c = are_elements_says
