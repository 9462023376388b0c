use Rattle.std.proofs.Common.{◌≡◌, length}
use Rattle.der_core.specs.Shapes.{listed}
use Rattle.der_core.proofs.Lists.{with_front}
use Rattle.package_attrs.specs.Reading.{name_at}
use Rattle.bank_layout.proofs.package.read_needs.Given as goal

-- those so far, and then those that are left
abbrev pub invariant-loop-items : goal.invariant-loop-items
invariant-loop-items l = listed name_at l.octets ≡ with_front l.names.items (listed name_at l.items)

abbrev pub decreases-loop-items : goal.decreases-loop-items
decreases-loop-items l = length l.items
