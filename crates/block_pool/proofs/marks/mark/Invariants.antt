use Rattle.std.proofs.Common.{◌≡◌, length, take}
use Rattle.block_pool.specs.Pools.{marked}
use Rattle.block_pool.proofs.marks.mark.Given as goal

abbrev pub invariant-loop-number : goal.invariant-loop-number
invariant-loop-number l = record {
  marked : l.live.items ≡ marked l.flag (take l.number-index l.numbers) l.fn.live.items;
  size : length l.live.items ≡ length l.fn.live.items;
}
