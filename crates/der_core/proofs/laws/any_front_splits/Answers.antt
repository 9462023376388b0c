use Rattle.der_core.proofs.Splits.{front_splits}
use Rattle.der_core.proofs.laws.any_front_splits.Goals as goal

pub returns : goal.returns
returns c = front_splits
