use Rattle.std.proofs.Common.{arith}
use Rattle.der_core.proofs.Shapes.{IsWhole-answers}
use Rattle.package_attrs.proofs.ListLaws.{targets-whole}
use Rattle.package_attrs.proofs.targets.read_targets.Goals as goal

pub returns-clause-spelled : goal.returns-clause-spelled
returns-clause-spelled c =
    IsWhole-answers c.args.bytes.now c.read_whole.result targets-whole (λ i. omega (arith, c.type_inv.bytes i))
    c.read_whole.ensures.exact
