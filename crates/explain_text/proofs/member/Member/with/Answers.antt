use Rattle.std.proofs.Common.{List, map, subst}
use Rattle.std.specs.Prelude.{IsPermutation}
use Rattle.std.proofs.lemmas.List.Sorted.{IsPermutation-map}
use Rattle.cert_fields.specs.Constraints.{ContentConstraint}
use Rattle.cert_fields.specs.ConstraintsView.{entry_view}
use Rattle.explain_text.proofs.member.Member.with.Goals as goal

pub invariant_of-result : goal.invariant_of-result
invariant_of-result c = record {
  differ = c.types_differ.ensures;
  same =
      subst (λ (entries : List ContentConstraint). IsPermutation entries (map entry_view c.in_order-ordered.result.items))
      c.in_ok-entries_in.ensures.same (IsPermutation-map entry_view _ _ c.in_order-ordered.ensures.same);
  ascend = c.in_order-ordered.ensures.ordered;
}
