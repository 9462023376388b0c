use Rattle.der_core.proofs.Integers.{fewest_octets}
use Rattle.der_core.proofs.laws.fewest_integer_octets.Goals as goal

pub returns : goal.returns
returns c = fewest_octets
