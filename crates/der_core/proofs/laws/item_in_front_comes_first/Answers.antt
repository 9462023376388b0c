use Rattle.der_core.proofs.Splits.{item_first}
use Rattle.der_core.proofs.laws.item_in_front_comes_first.Goals as goal

pub returns : goal.returns
returns c = item_first
