use Rattle.std.proofs.Common.{arith}
use Rattle.der_core.proofs.Shapes.{Answers-reads}
use Rattle.package_attrs.specs.Identifier.{view}
use Rattle.package_attrs.proofs.IdentifierLaws.{identifier-whole}
use Rattle.package_attrs.proofs.reading.read_identifier.Goals as goal

pub returns-clause-spelled : goal.returns-clause-spelled
returns-clause-spelled c =
    Answers-reads view c.args.bytes.now c.read_whole.result identifier-whole (λ i. omega (arith, c.type_inv.bytes i))
    c.read_whole.ensures.exact
