use Rattle.std.proofs.Common.{arith}
use Rattle.attribute_set.proofs.Readings.{attributes_are}
use Rattle.attribute_set.proofs.any_order.are_attributes.Goals as goal

pub returns : goal.returns
returns c = record {
  attributes = attributes_are c.args.octets.now c.read_each.result (λ i. omega (arith, c.type_inv.octets i))
      c.read_each.ensures;
}
