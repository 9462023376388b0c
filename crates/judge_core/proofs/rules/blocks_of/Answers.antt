use Rattle.std.proofs.Common.{arith}
use Rattle.judge_core.proofs.SumLemmas.{blocks_in, sum_more}
use Rattle.judge_core.proofs.rules.blocks_of.Goals as goal

pub loop-place-preserved : goal.loop-place-preserved
loop-place-preserved c =
    let more = sum_more blocks_in c.args.state.now.packages c.loop-place.place c.blocks_at.result
    (omega (arith, c.loop-place-test.true, c.packages-place-end.ensures.count)) c.blocks_at.ensures.blocks in (
      omega (arith, more, c.loop-place.invariant.0, c.from-blocks.ensures),
      omega (arith, c.loop-place.invariant.1, c.from-blocks.ensures, c.blocks_at.ensures.most),
    )
