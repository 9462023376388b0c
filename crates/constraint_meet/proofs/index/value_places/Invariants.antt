use Rattle.std.proofs.Common.{◌≡◌, ◌≤◌, ◌++◌, length}
use Rattle.std.specs.List.{flat_map}
use Rattle.cert_fields.specs.Constraints.{entry_text}
use Rattle.constraint_meet.specs.Index.{value_places, all_places}
use Rattle.constraint_meet.proofs.index.value_places.Given as goal

-- the places so far, and those of what is left
abbrev pub invariant-loop-entry : goal.invariant-loop-entry
invariant-loop-entry l =
    (length (flat_map entry_text l.left) ≤ length (flat_map entry_text l.ccc))
    × (all_places value_places l.ccc ≡ l.places.items ++ all_places value_places l.left)

abbrev pub decreases-loop-entry : goal.decreases-loop-entry
decreases-loop-entry l = length l.left
