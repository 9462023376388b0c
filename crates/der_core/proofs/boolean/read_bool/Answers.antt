use Rattle.std.proofs.Common.{arith}
use Rattle.der_core.proofs.Leaves.{bool-whole}
use Rattle.der_core.proofs.Shapes.{IsWhole-answers}
use Rattle.der_core.proofs.boolean.read_bool.Goals as goal

pub returns-clause-spelled : goal.returns-clause-spelled
returns-clause-spelled c =
    IsWhole-answers c.args.contents.now c.boolean.result bool-whole
    (λ i. omega (arith, c.type_inv.contents i)) c.boolean.ensures
