use Rattle.std.proofs.Common.{arith}
use Rattle.der_core.proofs.Shapes.{IsWhole-answers}
use Rattle.cert_fields.proofs.ExtensionLaws.{key_identifier-whole}
use Rattle.cert_fields.proofs.extension_values.read_key_identifier.Goals as goal

pub returns : goal.returns
returns c = record {
  spelled = IsWhole-answers c.args.bytes.now c.key_identifier.result key_identifier-whole (λ i. omega (arith, c.type_inv.bytes i)) c.key_identifier.ensures.exact;
}
