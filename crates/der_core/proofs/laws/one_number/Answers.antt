use Rattle.der_core.proofs.Theorems.{number_contents-one}
use Rattle.der_core.proofs.laws.one_number.Goals as goal

pub returns : goal.returns
returns c = number_contents-one
