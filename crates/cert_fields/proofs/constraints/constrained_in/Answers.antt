use Rattle.der_core.specs.AttributeView.{attribute_view}
use Rattle.cert_fields.proofs.ConstraintLaws.{valueless, kept_where_valued}
use Rattle.cert_fields.proofs.constraints.constrained_in.Goals as goal

pub returns-then-is_empty : goal.returns-then-is_empty
returns-then-is_empty c = record {
  exact = valueless c.args.octets.now (attribute_view c.in-Some.attribute) c.is_empty.result c.in-Some.ensures.exact
      c.is_empty.ensures c.if-is_empty.true;
}

pub returns : goal.returns
returns c = record {
  exact = kept_where_valued c.args.octets.now (attribute_view c.in-Some.attribute) c.is_empty.result
      c.in-Some.ensures.exact c.is_empty.ensures c.if-is_empty.false;
}
