use Rattle.std.proofs.Common.{◌≡◌, ◌≤◌, length, take}
use Rattle.block_pool.specs.Pools.{free_from}
use Rattle.block_pool.proofs.marks.least_free.Given as goal

-- the numbers so far are those of all free blocks so far
abbrev pub invariant-loop-block : goal.invariant-loop-block
invariant-loop-block l = record {
  numbers : l.numbers.items ≡ free_from 0 (take l.block l.live);
  few : length l.numbers.items ≤ l.n;
}
