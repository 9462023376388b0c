use Rattle.std.proofs.Common.{arith}
use Rattle.cert_fields.specs.Extensions.{AuthorityKey}
use Rattle.cert_fields.proofs.ExtensionLaws.{mapped_reads, authority_key-whole}
use Rattle.cert_fields.proofs.extension_values.read_authority_key.Goals as goal

pub returns : goal.returns
returns c = record {
  spelled = mapped_reads (λ (a : AuthorityKey). a.key) c.args.bytes.now c.authority_key.result authority_key-whole
      (λ i. omega (arith, c.type_inv.bytes i)) c.authority_key.ensures.exact;
}
