use Rattle.std.proofs.Common.{ℕ, ◌<◌}
use Rattle.path_check.specs.First.{HoldsAt}
use Rattle.path_check.specs.Above.{IsAnchorAbove}
use Rattle.path_check.proofs.find.first_anchor_above.Given as goal

-- it holds of none so far
abbrev pub invariant-loop-place : goal.invariant-loop-place
invariant-loop-place l = (i : ℕ) → i < l.place → ¬ HoldsAt (IsAnchorAbove l.child) (l.anchors) i
