use Rattle.der_core.proofs.Numbers.{number_again}
use Rattle.der_core.proofs.laws.number_is_read.Goals as goal

pub returns : goal.returns
returns c = number_again
