use Rattle.der_core.proofs.Objects.{oid_contents-one}
use Rattle.der_core.proofs.laws.one_identifier.Goals as goal

pub returns : goal.returns
returns c = oid_contents-one
