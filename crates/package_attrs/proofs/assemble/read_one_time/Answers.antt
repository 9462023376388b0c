use Rattle.std.proofs.Common.{arith}
use Rattle.der_core.proofs.Shapes.{IsWhole-answers}
use Rattle.package_attrs.proofs.PackageLaws.{one_time-whole}
use Rattle.package_attrs.proofs.assemble.read_one_time.Goals as goal

pub returns-clause-spelled : goal.returns-clause-spelled
returns-clause-spelled c =
    IsWhole-answers c.args.values.now c.one_time.result one_time-whole (λ i. omega (arith, c.type_inv.values i))
    c.one_time.ensures
