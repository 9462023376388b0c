use Rattle.std.proofs.Common.{◌≡◌, ◌++◌, List, length}
use Rattle.cert_fields.specs.Constraints.{ContentConstraint}
use Rattle.constraint_meet.specs.Permits.{entry_for}
use Rattle.constraint_meet.proofs.indexed.Indexed.entry_for.Given as goal

-- the entry of the type is among those that are left
abbrev pub invariant-loop-entry : goal.invariant-loop-entry
invariant-loop-entry l =
    (entry_for l.content l.self ≡ entry_for l.content l.left)
    × ((front : List ContentConstraint) × (l.self ≡ front ++ l.left))

abbrev pub decreases-loop-entry : goal.decreases-loop-entry
decreases-loop-entry l = length l.left
