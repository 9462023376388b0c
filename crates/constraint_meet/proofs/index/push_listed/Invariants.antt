use Rattle.std.proofs.Common.{◌≡◌, ◌≤◌, ◌++◌, length}
use Rattle.std.specs.List.{flat_map}
use Rattle.der_core.specs.Attribute.{attribute_text}
use Rattle.constraint_meet.specs.Index.{value_places}
use Rattle.constraint_meet.proofs.index.push_listed.Given as goal

-- the places so far, and those of what is left
abbrev pub invariant-loop-attribute : goal.invariant-loop-attribute
invariant-loop-attribute l =
    (length (flat_map attribute_text l.left) ≤ length (flat_map attribute_text l.attributes))
    × (l.initial.places.items ++ value_places l.after l.attributes ≡ l.places.items ++ value_places l.after l.left)

abbrev pub decreases-loop-attribute : goal.decreases-loop-attribute
decreases-loop-attribute l = length l.left
