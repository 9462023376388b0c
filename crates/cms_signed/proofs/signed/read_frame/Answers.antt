use Rattle.cms_signed.specs.Answer.{put_in}
use Rattle.cms_signed.proofs.MessageLaws.{is_read, fails_outside}
use Rattle.cms_signed.proofs.signed.read_frame.Goals as goal

pub returns-in-Err-clause-answer : goal.returns-in-Err-clause-answer
returns-in-Err-clause-answer c content are fits =
    fails_outside c.args.kind.now (put_in c.args.frame.now c.args.cut content) c.in-Err.condition
    (c.in-Err.ensures.answer content are fits)

pub returns-clause-answer : goal.returns-clause-answer
returns-clause-answer c content are fits =
    let outer = c.in-Ok.ensures.answer content are fits in
    is_read c.args.kind.now c.args.cut (put_in c.args.frame.now c.args.cut content) content c.in-Ok.outer.content.now
    c.in-Ok.outer.tail.now c.read_signer.result outer.0 outer.1 c.read_signer.ensures.answer c.read_signer.ensures.content
