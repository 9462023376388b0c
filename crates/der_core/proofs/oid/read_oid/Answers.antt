use Rattle.std.proofs.Common.{arith}
use Rattle.std.proofs.lemmas.Bool.{iff_false}
use Rattle.der_core.proofs.Objects.{oid_none}
use Rattle.der_core.proofs.oid.read_oid.Goals as goal

pub returns-then-not-is_identifier-clause-exact : goal.returns-then-not-is_identifier-clause-exact
returns-then-not-is_identifier-clause-exact c =
    oid_none c.args.contents.now (λ i. omega (arith, c.type_inv.contents i))
    (iff_false c.is_identifier.ensures c.if-not-is_identifier.true)
