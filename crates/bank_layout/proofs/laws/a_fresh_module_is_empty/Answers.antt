use Rattle.bank_layout.proofs.Fresh.{fresh}
use Rattle.bank_layout.proofs.laws.a_fresh_module_is_empty.Goals as goal

pub returns : goal.returns
returns c = record { empty = fresh }
