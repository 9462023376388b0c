use Rattle.std.proofs.Common.{arith}
use Rattle.der_core.proofs.Shapes.{IsWhole-answers}
use Rattle.package_attrs.proofs.ListLaws.{info-whole}
use Rattle.package_attrs.proofs.information.read_info.Goals as goal

pub returns-clause-spelled : goal.returns-clause-spelled
returns-clause-spelled c =
    IsWhole-answers c.args.bytes.now c.read_whole.result info-whole (λ i. omega (arith, c.type_inv.bytes i))
    c.read_whole.ensures.exact
