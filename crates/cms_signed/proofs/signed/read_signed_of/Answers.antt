use Rattle.std.proofs.Common.{ℕ, List, None, refl, [], arith, subst}
use Rattle.cms_signed.specs.SignedAnswer.{IsSignedAnswer}
use Rattle.cms_signed.proofs.signed.read_signed_of.Goals as goal

pub returns : goal.returns
returns c = record {
  answer = subst (λ (kind : List ℕ). IsSignedAnswer kind None c.args.item.now [] c.read_frame.result) c.octets.ensures.value
      (c.read_frame.ensures.answer [] (λ i. omega arith) refl);
}
