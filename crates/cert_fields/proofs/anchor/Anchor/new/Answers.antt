use Rattle.std.proofs.Common.{rules, subst}
use Rattle.der_core.specs.Element.{IsTagged}
use Rattle.cert_fields.specs.AnchorView.{anchor_view, text_view}
use Rattle.cert_fields.proofs.AnchorLaws.{has_parts, made, not_empty}
use Rattle.cert_fields.proofs.anchor.Anchor.new.Goals as goal

pub invariant_of-result : goal.invariant_of-result
invariant_of-result c =
    has_parts c.args.subject.items c.args.key_id c.args.key (text_view c.args.constraints)
    (subst (IsTagged 0x30) c.deref.ensures.value (c.is_name.ensures.0 c.if-not-is_name.false))
    (not_empty c.args.key_id c.octets.result.now c.is_empty.result c.octets.ensures.value c.is_empty.ensures
    c.if-is_empty.false) c.octets.ensures.size (search rules) (c.in_ok-are_constraints.ensures.0 c.if-not-branch.false)

pub returns : goal.returns
returns c = record {
  made = λ a. made (anchor_view c.args.subject.items c.args.key_id c.args.key (text_view c.args.constraints)) a
      c.args.subject.items c.args.key_id c.args.key (text_view c.args.constraints) (invariant_of-result c);
}
