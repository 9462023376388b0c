use Rattle.attribute_set.proofs.Readings.{one_set}
use Rattle.attribute_set.proofs.laws.one_attribute_set.Goals as goal

pub returns : goal.returns
returns c = one_set
