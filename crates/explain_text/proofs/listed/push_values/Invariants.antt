use Rattle.std.proofs.Common.{◌≡◌, ◌++◌, length}
use Rattle.constraint_meet.specs.Permits.{values_in}
use Rattle.constraint_meet.proofs.ValueLemmas.{Elements}
use Rattle.explain_text.specs.Ordered.{lent}
use Rattle.explain_text.proofs.listed.push_values.Given as goal

-- the values so far, and those that are left
abbrev pub invariant-loop-value : goal.invariant-loop-value
invariant-loop-value l =
    Elements l.items × (lent l.initial.all.items ++ values_in l.values ≡ lent l.all.items ++ values_in l.items)

abbrev pub decreases-loop-value : goal.decreases-loop-value
decreases-loop-value l = length l.items
