use Rattle.std.proofs.Common.{◌≡◌, ◌≤◌, ◌*◌, ◌^◌, take}
use Rattle.std.specs.List.{sum_by}
use Rattle.judge_core.proofs.SumLemmas.{blocks_in}
use Rattle.judge_core.proofs.rules.blocks_of.Given as goal

-- those of the packages so far
abbrev pub invariant-loop-place : goal.invariant-loop-place
invariant-loop-place l =
    (l.blocks ≡ sum_by blocks_in (take l.place l.state.packages)) × (l.blocks ≤ l.place * 2 ^ 20)
