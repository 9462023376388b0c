use Rattle.std.proofs.Common.{arith, subst}
use Rattle.cms_signed.specs.SignedView.{gapped_view}
use Rattle.cms_signed.proofs.Answers.{is_answer, is_empty, Decides}
use Rattle.cms_signed.specs.Answer.{put_in}
use Rattle.cms_signed.proofs.outer.read_outer_cut.Goals as goal

pub returns-in-Ok-clause-answer : goal.returns-in-Ok-clause-answer
returns-in-Ok-clause-answer c content are fits =
    subst (Decides c.args.kind.now c.args.cut (put_in c.args.frame.now c.args.cut content) content) c.in-Ok.ensures
    (is_answer c.args.kind.now c.args.frame.now c.args.cut content (λ i. omega (arith, c.type_inv.frame i)) c.requires.head
    are fits)

pub returns-in-Err-clause-answer : goal.returns-in-Err-clause-answer
returns-in-Err-clause-answer c content are fits =
    subst (Decides c.args.kind.now c.args.cut (put_in c.args.frame.now c.args.cut content) content) c.in-Err.ensures
    (is_answer c.args.kind.now c.args.frame.now c.args.cut content (λ i. omega (arith, c.type_inv.frame i)) c.requires.head
    are fits)

pub returns-in-Ok-clause-empty : goal.returns-in-Ok-clause-empty
returns-in-Ok-clause-empty c some =
    is_empty c.args.kind.now c.args.frame.now c.args.cut (gapped_view c.in-Ok.content, c.in-Ok.tail.now) c.requires.head
    c.in-Ok.ensures some
