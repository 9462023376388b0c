use Rattle.std.proofs.Common.{arith}
use Rattle.receipt_writer.specs.Answers.{current_text}
use Rattle.der_write.proofs.Contents.{text_more}
use Rattle.receipt_writer.proofs.error.config_contents.Goals as goal

pub loop-place-preserved : goal.loop-place-preserved
loop-place-preserved c = (
  text_more current_text c.args.state.now.packages c.loop-place.place _ _ _ c.in-Some.ensures.entry
      c.loop-place.invariant.0 c.in_ok-put_current.ensures.ok,
  omega (arith, c.loop-place.invariant.1, c.in_ok-put_current.ensures.most),
)
