use Rattle.std.proofs.Common.{arith, ap, length, length-append, sym, [], ◌∷◌, true, false, take}
use Rattle.block_pool.specs.Pools.{free_from}
use Rattle.block_pool.proofs.PoolLemmas.{free_more}
use Rattle.block_pool.proofs.marks.count_free.Goals as goal
use Rattle.block_pool.proofs.marks.count_free.Goals.{then-not-held, else-not-held}

-- one block more is counted, where it is free
pub loop-held-preserved : goal.loop-held-preserved
loop-held-preserved c =
    let so_far = free_from 0 (take c.loop-held.held-index c.args.live.now) in
    elim c.if-not-held.branch [
      | then-not-held w ↦
          let more = free_more c.args.live.now c.loop-held.held-index false c.loop-held-test.true (sym w.if-not-held.true) in
          record {
            count = omega (arith, ap length more, length-append so_far (c.loop-held.held-index ∷ []), w.count-is);
            few = omega (arith, w.count-is);
          }
      | else-not-held w ↦
          let more = free_more c.args.live.now c.loop-held.held-index true c.loop-held-test.true (sym w.if-not-held.false) in
          record {
            count = omega (arith, ap length more, length-append so_far [], w.count-is);
            few = omega (arith, w.count-is);
          }
    ]
