use Rattle.std.proofs.Common.{arith}
use Rattle.cert_fields.specs.Certificate.{BitString}
use Rattle.cert_fields.specs.Extensions.{usage_number}
use Rattle.cert_fields.proofs.ExtensionLaws.{mapped_reads, usage-whole}
use Rattle.cert_fields.proofs.extension_values.read_usage.Goals as goal

pub returns : goal.returns
returns c = record {
  spelled = mapped_reads (λ (b : BitString). usage_number b.1) c.args.bytes.now c.usage.result usage-whole
      (λ i. omega (arith, c.type_inv.bytes i)) c.usage.ensures.exact;
}
