use Rattle.std.proofs.Common.{arith}
use Rattle.der_core.specs.AttributeView.{attribute_view}
use Rattle.der_core.proofs.AttributeLaws.{attr-whole}
use Rattle.der_core.proofs.Shapes.{Answers-reads}
use Rattle.der_core.proofs.read_attribute.read_attr.Goals as goal

pub returns-clause-spelled : goal.returns-clause-spelled
returns-clause-spelled c =
    Answers-reads attribute_view c.args.element.now c.read_whole.result attr-whole
    (λ i. omega (arith, c.type_inv.element i))
    c.read_whole.ensures
