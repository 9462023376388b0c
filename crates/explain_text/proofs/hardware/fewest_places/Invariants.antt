use Rattle.std.proofs.Common.{List, ℕ, length}
use Rattle.std.specs.Prelude.{Contains}
use Rattle.explain_text.specs.Keys.{AreOf}
use Rattle.explain_text.proofs.hardware.fewest_places.Given as goal

-- those of one of the types, and the types that are left are among them
abbrev pub invariant-loop-id : goal.invariant-loop-id
invariant-loop-id l =
    ((id : List ℕ) × Contains l.types id × AreOf l.keys id l.fewest)
    × ((id : List ℕ) → Contains l.left id → Contains l.types id)

abbrev pub decreases-loop-id : goal.decreases-loop-id
decreases-loop-id l = length l.left
