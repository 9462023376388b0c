use Rattle.std.proofs.Common.{arith}
use Rattle.bank_layout.specs.ReadingView.{manifest_parts}
use Rattle.bank_layout.proofs.ManifestLaws.{reads_nothing, reads_no_packages, reads_no_stale, reads_no_blocks, reads_state}
use Rattle.bank_layout.proofs.reading.read_manifest.Goals as goal

pub returns-in_default : goal.returns-in_default
returns-in_default c = record {
  spelled = reads_nothing c.args.capacity c.args.bytes.now c.new.result c.new.ensures.all c.in_default.ensures.exact;
}

pub returns-in_default-2 : goal.returns-in_default-2
returns-in_default-2 c = record {
  spelled = reads_no_packages c.args.capacity c.args.bytes.now c.new.result (manifest_parts c.in-Some.fields) _
      c.new.ensures.all c.in-Some.ensures.exact (rw c.in_default-2.is at c.in_ok-packages.ensures.none);
}

pub returns-in_default-3 : goal.returns-in_default-3
returns-in_default-3 c = record {
  spelled = reads_no_stale c.args.capacity c.args.bytes.now c.new.result (manifest_parts c.in-Some.fields) _
      c.new.ensures.all c.in-Some.ensures.exact (rw c.in_default-3.is at c.in_ok-state.ensures.none);
}

pub returns-in_default-4 : goal.returns-in_default-4
returns-in_default-4 c = record {
  spelled = reads_no_blocks c.args.capacity c.args.bytes.now c.new.result (manifest_parts c.in-Some.fields) _
      c.new.ensures.all c.in-Some.ensures.exact c.in-Some-3.state c.in-Some-2.packages.packages
      (rw c.in-Some-3.is at c.in_ok-state.ensures.packages) (rw c.in-Some-2.is at c.in_ok-packages.ensures.some)
      c.in_ok-pool_of.field-0 c.in_default-4.is c.in_ok-pool_of.ensures.found;
}

pub returns : goal.returns
returns c = record {
  spelled = reads_state c.args.capacity c.args.bytes.now c.new.result (manifest_parts c.in-Some.fields) _
      c.new.ensures.all c.in-Some.ensures.exact c.in-Some-3.state c.in-Some-2.packages.packages
      (rw c.in-Some-3.is at c.in_ok-state.ensures.packages) (rw c.in-Some-2.is at c.in_ok-packages.ensures.some)
      c.in_ok-pool_of.field-0 c.in-Some-4.field-0 c.in-Some-4.is c.in_ok-pool_of.ensures.found
      (omega (arith, c.if-capacity-lt1.false), omega (arith, c.if-capacity-gt-MOST_CAPACITY.false))
      (λ i. omega (arith, c.type_inv.bytes i)) (rw c.in-Some-3.is at c.in_ok-state.ensures.some);
}
