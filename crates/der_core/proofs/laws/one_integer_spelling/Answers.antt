use Rattle.der_core.proofs.Integers.{one_text}
use Rattle.der_core.proofs.laws.one_integer_spelling.Goals as goal

pub returns : goal.returns
returns c = one_text
