use Rattle.der_core.proofs.Shapes.{front_of-enc}
use Rattle.der_core.proofs.laws.element_is_read.Goals as goal

pub returns : goal.returns
returns c = front_of-enc
