use Rattle.std.proofs.Common.{arith}
use Rattle.package_attrs.proofs.CoverLemmas.{identifiers}
use Rattle.package_attrs.proofs.covers.identifier_covers.Goals as goal

pub returns-clause-covers : goal.returns-clause-covers
returns-clause-covers c =
    rw c.tells_identifier.ensures (identifiers c.args.listed.now c.args.value.now (λ i. omega (arith, c.type_inv.listed i))
    (λ i. omega (arith, c.type_inv.value i)))
