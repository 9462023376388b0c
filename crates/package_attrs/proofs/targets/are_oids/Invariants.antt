use Rattle.std.proofs.Common.{◌≡◌, length}
use Rattle.std.specs.Prelude.{is_some}
use Rattle.der_core.specs.Shapes.{listed}
use Rattle.package_attrs.specs.Reading.{oid_at}
use Rattle.package_attrs.proofs.targets.are_oids.Given as goal

-- all of them are such values exactly where those that are left are
abbrev pub invariant-loop-items : goal.invariant-loop-items
invariant-loop-items l = is_some (listed oid_at l.contents) ≡ is_some (listed oid_at l.items)

abbrev pub decreases-loop-items : goal.decreases-loop-items
decreases-loop-items l = length l.items
