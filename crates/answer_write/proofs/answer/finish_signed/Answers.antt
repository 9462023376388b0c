use Rattle.std.proofs.Common.{◌∙◌, ℕ, List, ◌++◌, length, ap, subst, sym, ◌<◌, arith}
use Rattle.std.proofs.lemmas.List.{length-append}
use Rattle.lms_sign.specs.PublicKeys.{leaf_count}
use Rattle.lms_sign.specs.SignTexts.{sign_text}
use Rattle.lms_sign.specs.declared.key.SignKey.{SignKey}
use Rattle.answer_write.specs.Reserved.{Forms}
use Rattle.answer_write.proofs.SignatureSizes.{held_size}
use Rattle.answer_write.proofs.answer.finish_signed.Goals as goal

pub returns-clause-octets : goal.returns-clause-octets
returns-clause-octets c = λ owner kind text is reserved.
    c.finish_by_tree.ensures.octets
    ∙ ap (λ (a : Forms). a.unsigned.before ++ sign_text c.args.tree.now c.args.leaf a.unsigned.signed) c.answer.view_is
    ∙ ap (λ (key : SignKey). c.args.answer.unsigned.before ++ sign_text key c.args.leaf c.args.answer.unsigned.signed) (sym is)
    ∙ reserved.signed c.args.leaf (subst (λ (key : SignKey). c.args.leaf < leaf_count key) (sym is) c.requires.leaf)

pub returns-clause-size : goal.returns-clause-size
returns-clause-size c =
    let key = c.args.tree.now in
    let message = c.args.answer.unsigned.signed in
    let signature = sign_text key c.args.leaf message in
    omega (
      arith,
      ap (λ (o : List ℕ). length o) (c.finish_by_tree.ensures.octets
          ∙ ap (λ (a : Forms). a.unsigned.before ++ sign_text key c.args.leaf a.unsigned.signed) c.answer.view_is),
      length-append c.args.answer.unsigned.before signature,
      held_size key message signature (c.signatures_hold.ensures key c.args.leaf message c.requires.leaf),
      c.requires.size,
    )
