use Rattle.std.proofs.Common.{arith}
use Rattle.der_core.proofs.Shapes.{IsWhole-answers}
use Rattle.package_attrs.proofs.PackageLaws.{digest-whole}
use Rattle.package_attrs.proofs.content.read_digest.Goals as goal

pub returns-clause-spelled : goal.returns-clause-spelled
returns-clause-spelled c =
    IsWhole-answers c.args.values.now c.digest.result digest-whole (λ i. omega (arith, c.type_inv.values i))
    c.digest.ensures
