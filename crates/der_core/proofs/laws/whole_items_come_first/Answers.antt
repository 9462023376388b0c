use Rattle.der_core.proofs.Splits.{all_first, split_first}
use Rattle.der_core.proofs.laws.whole_items_come_first.Goals as goal

pub returns-clause-sequences : goal.returns-clause-sequences
returns-clause-sequences c = all_first

pub returns-clause-split : goal.returns-clause-split
returns-clause-split c = split_first
