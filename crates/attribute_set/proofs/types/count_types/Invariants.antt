use Rattle.std.proofs.Common.{length}
use Rattle.attribute_set.proofs.TypeLemmas.{Counted}
use Rattle.attribute_set.proofs.types.count_types.Given as goal

abbrev pub invariant-loop-items : goal.invariant-loop-items
invariant-loop-items l = Counted l.contents l.items l.count

abbrev pub decreases-loop-items : goal.decreases-loop-items
decreases-loop-items l = length l.items
