use Rattle.std.proofs.Common.{◌∙◌, sym}
use Rattle.recipe_text.proofs.KeyLines.{word_is}
use Rattle.recipe_text.proofs.CertPlans.{any_number}
use Rattle.recipe_text.proofs.cert_line.authority_in.Goals as goal

pub returns-then-eq : goal.returns-then-eq
returns-then-eq c = record {
  exact = any_number c.args.text.now
      (word_is c.args.text.now c.as_slice.result.now (sym c.eq.ensures ∙ c.if-eq.true) ∙ c.as_slice.ensures);
}
