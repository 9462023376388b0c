use Rattle.std.proofs.Common.{arith}
use Rattle.package_attrs.proofs.CoverLemmas.{targets}
use Rattle.package_attrs.proofs.covers.targets_cover.Goals as goal

pub returns-clause-covers : goal.returns-clause-covers
returns-clause-covers c =
    rw c.tells_targets.ensures (targets c.args.listed.now c.args.value.now (λ i. omega (arith, c.type_inv.listed i))
    (λ i. omega (arith, c.type_inv.value i)))
