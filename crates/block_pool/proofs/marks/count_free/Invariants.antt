use Rattle.std.proofs.Common.{◌≡◌, ◌≤◌, length, take}
use Rattle.block_pool.specs.Pools.{free_from}
use Rattle.block_pool.proofs.marks.count_free.Given as goal

-- the free blocks so far are counted
abbrev pub invariant-loop-held : goal.invariant-loop-held
invariant-loop-held l = record {
  count : l.count ≡ length (free_from 0 (take l.held-index l.live));
  few : l.count ≤ l.held-index;
}
