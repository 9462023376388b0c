use Rattle.std.proofs.Common.{◌≡◌, length}
use Rattle.std.specs.Prelude.{◌↔◌}
use Rattle.std.specs.List.{AllByRecursion, list_all}
use Rattle.cert_fields.specs.ConstraintsView.{entry_view}
use Rattle.constraint_meet.specs.Permits.{Passes}
use Rattle.constraint_meet.specs.Tests.{passes}
use Rattle.constraint_meet.proofs.indexed.Indexed.all_pass.Given as goal

-- all pass exactly where those that are left do
abbrev pub invariant-loop-attribute : goal.invariant-loop-attribute
invariant-loop-attribute l =
    (list_all (passes (entry_view l.entry)) l.attributes ≡ list_all (passes (entry_view l.entry)) l.left)
    × (AllByRecursion (Passes (entry_view l.entry)) l.attributes ↔ AllByRecursion (Passes (entry_view l.entry)) l.left)

abbrev pub decreases-loop-attribute : goal.decreases-loop-attribute
decreases-loop-attribute l = length l.left
