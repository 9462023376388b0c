use Rattle.der_core.proofs.Splits.{first_has}
use Rattle.der_core.proofs.laws.first_item_has_its_beginning.Goals as goal

pub returns : goal.returns
returns c = first_has
