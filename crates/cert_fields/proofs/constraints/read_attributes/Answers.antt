use Rattle.der_core.proofs.Lists.{some_left, none_left}
use Rattle.cert_fields.proofs.ConstraintLaws.{attributes_end, attributes_left}
use Rattle.cert_fields.proofs.constraints.read_attributes.Goals as goal

pub invariant_of-result : goal.invariant_of-result
invariant_of-result c =
    (attributes_end c.args.rest.now c.rest.result.now
    (none_left c.args.rest.now c.at_end.result c.at_end.ensures.end c.if-at_end.true) c.rest.ensures.rest).1

pub returns-then-at_end : goal.returns-then-at_end
returns-then-at_end c = record {
  exact = (attributes_end c.args.rest.now c.rest.result.now
      (none_left c.args.rest.now c.at_end.result c.at_end.ensures.end c.if-at_end.true) c.rest.ensures.rest).0;
}

pub returns : goal.returns
returns c = record {
  exact = attributes_left c.args.rest.now c.read_attributes_list.result
      (some_left c.args.rest.now c.at_end.result c.at_end.ensures.end c.if-at_end.false)
      c.read_attributes_list.ensures.exact;
}
