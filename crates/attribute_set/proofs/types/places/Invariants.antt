use Rattle.std.proofs.Common.{length}
use Rattle.attribute_set.proofs.TypeLemmas.{Found}
use Rattle.attribute_set.proofs.types.places.Given as goal

-- the places so far are those of the elements before what is left
abbrev pub invariant-loop-element : goal.invariant-loop-element
invariant-loop-element l = Found l.contents l.places.items l.items

abbrev pub decreases-loop-element : goal.decreases-loop-element
decreases-loop-element l = length l.items
