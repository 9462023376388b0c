use Rattle.std.proofs.Common.{arith}
use Rattle.der_core.proofs.Shapes.{IsWhole-answers}
use Rattle.package_attrs.proofs.PackageLaws.{one_oid-whole}
use Rattle.package_attrs.proofs.content.read_one_oid.Goals as goal

pub returns-clause-spelled : goal.returns-clause-spelled
returns-clause-spelled c =
    IsWhole-answers c.args.values.now c.one_oid.result one_oid-whole (λ i. omega (arith, c.type_inv.values i))
    c.one_oid.ensures
