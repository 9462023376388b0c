use Rattle.std.proofs.Common.{◌≡◌, length}
use Rattle.std.specs.Prelude.{is_some}
use Rattle.der_core.specs.Shapes.{listed}
use Rattle.cert_fields.specs.ExtensionsReading.{extension_at}
use Rattle.cert_fields.proofs.extension_list.are_extensions.Given as goal

-- all of them are such values exactly where those that are left are
abbrev pub invariant-loop-items : goal.invariant-loop-items
invariant-loop-items l = is_some (listed extension_at l.contents) ≡ is_some (listed extension_at l.items)

abbrev pub decreases-loop-items : goal.decreases-loop-items
decreases-loop-items l = length l.items
