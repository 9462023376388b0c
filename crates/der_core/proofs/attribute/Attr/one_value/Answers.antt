use Rattle.std.proofs.Common.{ℕ, List, Bor}
use Rattle.der_core.proofs.AttributeLaws.{one_element-whole}
use Rattle.der_core.proofs.Shapes.{Answers-reads}
use Rattle.der_core.proofs.attribute.Attr.one_value.Goals as goal

pub returns-clause-spelled : goal.returns-clause-spelled
returns-clause-spelled c =
    Answers-reads (λ (value : ℕ × Bor (List ℕ) × Bor (List ℕ)).
    (value.0, value.1.now)) c.args.self.now.values.now c.only_element.result one_element-whole
    c.only_element.ensures.octets c.only_element.ensures.exact
