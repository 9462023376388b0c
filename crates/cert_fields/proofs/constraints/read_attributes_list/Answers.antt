use Rattle.std.proofs.Common.{sym, ◌∙◌}
use Rattle.attribute_set.proofs.ItemLemmas.{are_items, arent_items}
use Rattle.cert_fields.specs.ConstraintsReading.{constrained_at}
use Rattle.cert_fields.proofs.ConstraintLaws.{attributes_are, attributes_none}
use Rattle.cert_fields.proofs.constraints.read_attributes_list.Goals as goal

pub returns-in_default : goal.returns-in_default
returns-in_default c = record { exact = attributes_none c.args.rest.now c.in_default.ensures.exact }

pub invariant_of-result : goal.invariant_of-result
invariant_of-result c =
    are_items constrained_at c.in-Some.octets.now (sym c.are_constrained.ensures ∙ c.if-are_constrained.true)

pub returns-then-are_constrained : goal.returns-then-are_constrained
returns-then-are_constrained c = record {
  exact = attributes_are c.args.rest.now c.in-Some.octets.now c.in-Some.ensures.exact
      ∙ are_items constrained_at c.in-Some.octets.now (sym c.are_constrained.ensures ∙ c.if-are_constrained.true);
}

pub returns-else-are_constrained : goal.returns-else-are_constrained
returns-else-are_constrained c = record {
  exact = attributes_are c.args.rest.now c.in-Some.octets.now c.in-Some.ensures.exact
      ∙ arent_items constrained_at c.in-Some.octets.now (sym c.are_constrained.ensures ∙ c.if-are_constrained.false);
}
