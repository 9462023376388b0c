use Rattle.std.proofs.Common.{arith}
use Rattle.der_core.proofs.Objects.{is_identifier}
use Rattle.der_core.proofs.oid.is_identifier.Goals as goal

pub returns : goal.returns
returns c =
    is_identifier c.args.contents.now _ (λ i. omega (arith, c.type_inv.contents i)) c.reads_as_identifier.ensures
