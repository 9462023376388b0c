use Rattle.std.proofs.Common.{◌≡◌, length}
use Rattle.std.specs.List.{list_all}
use Rattle.constraint_meet.specs.Tests.{is_covered}
use Rattle.constraint_meet.specs.Permits.{values_in}
use Rattle.constraint_meet.proofs.ValueLemmas.{Elements}
use Rattle.constraint_meet.proofs.listed.Listed.covers_each.Given as goal

-- all are covered exactly where those that are left are
abbrev pub invariant-loop-value : goal.invariant-loop-value
invariant-loop-value l =
    Elements l.items × (list_all (is_covered l.self) (values_in l.values) ≡ list_all (is_covered l.self) (values_in l.items))

abbrev pub decreases-loop-value : goal.decreases-loop-value
decreases-loop-value l = length l.items
