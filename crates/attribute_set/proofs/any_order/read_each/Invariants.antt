use Rattle.std.proofs.Common.{◌≡◌, length, is_some}
use Rattle.der_core.specs.AttributeReading.{attribute_at}
use Rattle.der_core.specs.Shapes.{listed}
use Rattle.attribute_set.proofs.any_order.read_each.Given as goal

-- what is left is read exactly where all is
abbrev pub invariant-loop-cursor : goal.invariant-loop-cursor
invariant-loop-cursor l = is_some (listed attribute_at l.octets) ≡ is_some (listed attribute_at l.cursor)

abbrev pub decreases-loop-cursor : goal.decreases-loop-cursor
decreases-loop-cursor l = length l.cursor
