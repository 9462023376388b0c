use Rattle.std.proofs.Common.{arith}
use Rattle.module_record.proofs.KeyLaws.{record_reads}
use Rattle.module_record.proofs.key_record.read_key_record.Goals as goal

pub returns : goal.returns
returns c = record {
  spelled =
      record_reads c.args.bytes.now c.read_front.new.octets c.read_front.result (λ i. omega (arith, c.type_inv.bytes i))
      (rw c.new.ensures.all at c.read_front.ensures.exact);
}
