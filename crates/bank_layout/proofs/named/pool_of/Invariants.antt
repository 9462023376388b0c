use Rattle.std.proofs.Common.{take}
use Rattle.bank_layout.specs.Manifest.{blocks_in}
use Rattle.bank_layout.proofs.Own.{IsSoFar}
use Rattle.bank_layout.proofs.named.pool_of.Given as goal

-- the blocks of the packages so far are live, and no others
abbrev pub invariant-loop-place : goal.invariant-loop-place
invariant-loop-place l = IsSoFar l.capacity l.left l.pool (blocks_in (take l.place l.state.packages))
