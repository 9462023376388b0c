use Rattle.std.proofs.Common.{length}
use Rattle.attribute_set.specs.Items.{items_of}
use Rattle.cert_fields.specs.Constraints.{HasOwnTypes}
use Rattle.cert_fields.specs.ConstraintsReading.{entry_at}
use Rattle.cert_fields.proofs.AllWhere.{AllWhere}
use Rattle.cert_fields.proofs.constraints.have_own_attributes.Given as goal

abbrev pub invariant-loop-entry : goal.invariant-loop-entry
invariant-loop-entry l = AllWhere HasOwnTypes (items_of entry_at l.entries) l.left

abbrev pub decreases-loop-entry : goal.decreases-loop-entry
decreases-loop-entry l = length l.left
