use Rattle.std.proofs.Common.{◌≤◌, ◌++◌, length}
use Rattle.std.specs.List.{flat_map}
use Rattle.der_core.specs.Attribute.{attribute_text}
use Rattle.constraint_meet.specs.Index.{kind_places}
use Rattle.constraint_meet.proofs.PushLemmas.{KindsLeft}
use Rattle.constraint_meet.proofs.index.push_kinds.Given as goal

-- the places so far, and those of what is left
abbrev pub invariant-loop-contents : goal.invariant-loop-contents
invariant-loop-contents l =
    KindsLeft (l.initial.places.items ++ kind_places l.after l.attributes) l.places.items l.after l.items
    × (length l.items ≤ length (flat_map attribute_text l.attributes))

abbrev pub decreases-loop-contents : goal.decreases-loop-contents
decreases-loop-contents l = length l.items
