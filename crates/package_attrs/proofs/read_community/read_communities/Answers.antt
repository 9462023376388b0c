use Rattle.std.proofs.Common.{arith}
use Rattle.der_core.proofs.Shapes.{IsWhole-answers}
use Rattle.package_attrs.proofs.ListLaws.{communities-whole}
use Rattle.package_attrs.proofs.read_community.read_communities.Goals as goal

pub returns-clause-spelled : goal.returns-clause-spelled
returns-clause-spelled c =
    IsWhole-answers c.args.bytes.now c.read_whole.result communities-whole (λ i. omega (arith, c.type_inv.bytes i))
    c.read_whole.ensures.exact
