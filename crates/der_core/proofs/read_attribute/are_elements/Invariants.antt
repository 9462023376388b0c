use Rattle.std.proofs.Common.{◌≡◌, length}
use Rattle.der_core.specs.AttributeReading.{are_elements}
use Rattle.der_core.proofs.read_attribute.are_elements.Given as goal

abbrev pub invariant-loop-cursor : goal.invariant-loop-cursor
invariant-loop-cursor l = are_elements l.octets ≡ are_elements l.cursor

abbrev pub decreases-loop-cursor : goal.decreases-loop-cursor
decreases-loop-cursor l = length l.cursor
