use Rattle.std.proofs.Common.{◌≡◌, length, take, true, All}
use Rattle.block_pool.specs.Numbers.{IsApart}
use Rattle.block_pool.specs.Pools.{IsFree, marked}
use Rattle.block_pool.proofs.marks.mark_free.Given as goal

abbrev pub invariant-loop-i : goal.invariant-loop-i
invariant-loop-i l = record {
  marked : l.live.items ≡ marked true (take l.i l.numbers) l.fn.live.items;
  size : length l.live.items ≡ length l.fn.live.items;
  free : All (IsFree l.fn.live.items) (take l.i l.numbers);
  apart : IsApart (take l.i l.numbers);
}
