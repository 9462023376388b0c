use Rattle.std.proofs.Common.{◌≡◌, length}
use Rattle.der_core.specs.Shapes.{listed}
use Rattle.module_record.specs.ModuleReading.{number_at}
use Rattle.module_record.proofs.ListLemmas.{behind}
use Rattle.module_record.proofs.module_reading.read_kinds.Given as goal

-- those so far, and then those that are left
abbrev pub invariant-loop-items : goal.invariant-loop-items
invariant-loop-items l = listed number_at l.contents ≡ behind l.kinds.items (listed number_at l.items)

abbrev pub decreases-loop-items : goal.decreases-loop-items
decreases-loop-items l = length l.items
