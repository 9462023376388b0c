use Rattle.std.proofs.Common.{◌≡◌, length}
use Rattle.std.specs.List.{list_any}
use Rattle.constraint_meet.specs.Covers.{covers}
use Rattle.constraint_meet.specs.Permits.{values_in}
use Rattle.constraint_meet.proofs.ValueLemmas.{Elements}
use Rattle.constraint_meet.proofs.covers.one_covers.Given as goal

-- one is covered exactly where one of those that are left is
abbrev pub invariant-loop-one : goal.invariant-loop-one
invariant-loop-one l =
    Elements l.items × (list_any (λ one. covers l.kind one l.value) (values_in l.listed)
    ≡ list_any (λ one. covers l.kind one l.value) (values_in l.items))

abbrev pub decreases-loop-one : goal.decreases-loop-one
decreases-loop-one l = length l.items
