use Rattle.std.proofs.Common.{◌≡◌, ◌≤◌, ◌++◌, length}
use Rattle.der_core.specs.Element.{AreOctets}
use Rattle.constraint_meet.specs.Index.{places_of}
use Rattle.constraint_meet.specs.Permits.{values_in}
use Rattle.constraint_meet.proofs.ValueLemmas.{Elements}
use Rattle.constraint_meet.proofs.index.push_values.Given as goal

-- the places so far, and those of what is left
abbrev pub invariant-loop-places : goal.invariant-loop-places
invariant-loop-places l =
    Elements l.items × AreOctets l.items × (l.left ≡ length l.items) × (length l.items ≤ length l.values)
    × (l.initial.places.items ++ places_of l.after (values_in l.values)
    ≡ l.places.items ++ places_of l.after (values_in l.items))

abbrev pub decreases-loop-places : goal.decreases-loop-places
decreases-loop-places l = length l.items
