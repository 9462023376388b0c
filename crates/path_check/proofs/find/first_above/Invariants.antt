use Rattle.std.proofs.Common.{ℕ, ◌<◌}
use Rattle.path_check.specs.First.{HoldsAt}
use Rattle.path_check.specs.Above.{IsAbove}
use Rattle.path_check.proofs.find.first_above.Given as goal

-- it holds of none so far
abbrev pub invariant-loop-place : goal.invariant-loop-place
invariant-loop-place l = (i : ℕ) → i < l.place → ¬ HoldsAt (IsAbove l.child) l.certs i
