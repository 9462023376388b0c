use Rattle.std.proofs.Common.{arith}
use Rattle.der_core.proofs.Shapes.{IsWhole-answers}
use Rattle.cert_fields.proofs.ExtensionLaws.{ca_rule-whole}
use Rattle.cert_fields.proofs.extension_values.read_ca_rule.Goals as goal

pub returns : goal.returns
returns c = record {
  spelled = IsWhole-answers c.args.bytes.now c.ca_rule.result ca_rule-whole (λ i. omega (arith, c.type_inv.bytes i)) c.ca_rule.ensures.exact;
}
