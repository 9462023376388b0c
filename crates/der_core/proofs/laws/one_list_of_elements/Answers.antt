use Rattle.der_core.proofs.AttributeLaws.{one_elements}
use Rattle.der_core.proofs.laws.one_list_of_elements.Goals as goal

pub returns : goal.returns
returns c = one_elements
