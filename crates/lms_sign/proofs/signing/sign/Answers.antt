use Rattle.std.proofs.Common.{ℕ, List, ◌++◌, ap, ◌∙◌}
use Rattle.lms_sign.specs.SignTexts.{sign_text}
use Rattle.lms_sign.proofs.signing.sign.Goals as goal

pub returns : goal.returns
returns c = record {
  signature =
      ap (λ (path : List ℕ). c.put_front.new.out ++ path) c.put_path.ensures ∙ c.put_front.ensures
      ∙ ap (λ (n : ℕ). sign_text c.args.key.now n (c.args.first.now ++ c.args.rest.now)) c.number-q.ensures.number;
}
