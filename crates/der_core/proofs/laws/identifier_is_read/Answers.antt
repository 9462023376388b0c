use Rattle.der_core.proofs.Objects.{oid_again}
use Rattle.der_core.proofs.laws.identifier_is_read.Goals as goal

pub returns : goal.returns
returns c = oid_again
