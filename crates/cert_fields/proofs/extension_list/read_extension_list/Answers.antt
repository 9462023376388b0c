use Rattle.std.proofs.Common.{arith}
use Rattle.der_core.proofs.Shapes.{IsWhole-answers}
use Rattle.cert_fields.proofs.ExtensionLaws.{extensions-whole}
use Rattle.cert_fields.proofs.extension_list.read_extension_list.Goals as goal

pub returns-clause-spelled : goal.returns-clause-spelled
returns-clause-spelled c =
    IsWhole-answers c.args.bytes.now c.read_list.result extensions-whole (λ i. omega (arith, c.type_inv.bytes i))
    c.read_list.ensures.exact
