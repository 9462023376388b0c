use Rattle.std.proofs.Common.{◌+◌, ◌++◌, arith}
use Rattle.std.proofs.lemmas.Slice.Eq.{slice_eq-Decides}
use Rattle.std.proofs.lemmas.Bool.Decides.{Decides-eqb}
use Rattle.lms_verify.specs.Parts.{signature_of}
use Rattle.lms_verify.proofs.CheckLemmas.{holds_is}
use Rattle.lms_verify.proofs.check.lms_check.Goals as goal

pub returns : goal.returns
returns c = record {
  holds =
      let key = c.args.key.now in
      let equal = slice_eq-Decides Decides-eqb c.root_value.result key.root c.eq.result c.eq.ensures in
      let holds = holds_is key (c.args.first.now ++ c.args.rest.now) c.args.signature.now
      (signature_of c.in-Some.parts) (c.leaf_count.result + c.in-Some.parts.q) c.height.result
      c.message_value-value.result c.candidate_key-one_time.result c.leaf_value-leaf.result c.root_value.result
      c.in-Some.ensures.read c.in-Some.ensures.found (omega arith) c.height.ensures.value
      c.message_value-value.ensures.value c.candidate_key-one_time.ensures c.leaf_value-leaf.ensures.value
      (c.root_value.ensures key.root) in
      (λ yes. holds.0 (equal.0 yes), λ by. equal.1 (holds.1 by));
}
