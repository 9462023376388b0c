use Rattle.std.proofs.Common.{◌≡◌, length}
use Rattle.std.specs.Prelude.{is_some}
use Rattle.der_core.specs.Shapes.{listed}
use Rattle.cert_fields.specs.ConstraintsReading.{entry_at}
use Rattle.cert_fields.proofs.constraints.are_entries.Given as goal

-- all of them are such values exactly where those that are left are
abbrev pub invariant-loop-items : goal.invariant-loop-items
invariant-loop-items l = is_some (listed entry_at l.contents) ≡ is_some (listed entry_at l.items)

abbrev pub decreases-loop-items : goal.decreases-loop-items
decreases-loop-items l = length l.items
