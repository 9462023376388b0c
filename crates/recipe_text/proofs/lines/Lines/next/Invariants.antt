use Rattle.std.proofs.Common.{◌≡◌, ◌+◌, ℕ, List, length}
use Rattle.recipe_text.specs.Passing.{Skips}
use Rattle.recipe_text.proofs.lines.Lines.next.Given as goal

-- all lines so far are skipped
abbrev pub invariant-loop-line : goal.invariant-loop-line
invariant-loop-line l =
    (skipped : List (List ℕ)) × Skips l.initial.self.rest skipped l.self.rest
    × (l.self.number ≡ l.initial.self.number + length skipped)

abbrev pub decreases-loop-line : goal.decreases-loop-line
decreases-loop-line l = length l.self.rest
