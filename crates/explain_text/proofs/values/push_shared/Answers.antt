use Rattle.std.proofs.Common.{◌++◌, List, ℕ, Bor, map, string_bytes, ap, subst, ◌∙◌}
use Rattle.std.specs.Prelude.{Contains}
use Rattle.std.specs.List.{filter, flat_map, list_all}
use Rattle.der_core.specs.Attribute.{Attribute}
use Rattle.der_core.specs.AttributeView.{attribute_view}
use Rattle.constraint_meet.specs.Permits.{values_in}
use Rattle.constraint_meet.specs.Tests.{is_covered}
use Rattle.explain_text.specs.GrantText.{value_text}
use Rattle.explain_text.specs.Ordered.{AreExactly, lent}
use Rattle.explain_text.proofs.Shares.{shared}
use Rattle.explain_text.proofs.Texts.{on_ok}
use Rattle.explain_text.proofs.values.push_shared.Goals as goal

pub returns : goal.returns
returns c =
    let all = map attribute_view c.args.attributes.now in
    let start = string_bytes c.args.text.now in
    let values = c.in_ok-values.values.items in
    let are = subst (λ (listed : List Attribute).
    AreExactly (Contains (flat_map (λ a. values_in a.values) listed)) (lent values))
    (c.deref.ensures.value ∙ c.in_ok-listed.ensures.same) c.in_ok-values.ensures in
    record {
      ok =
          on_ok c.push_covered.result c.push_covered.ensures.ok
          (λ pushed. (
            filter (λ value. list_all (λ a. is_covered a value) all) (lent values),
            shared all c.in_ok-listed.ensures.octets (lent values) are,
            pushed
                ∙ ap (λ (listed : List Attribute). start ++ flat_map value_text
                (filter (λ value. list_all (λ a. is_covered a value) listed) (lent c.deref-3.result.now)))
                (c.deref-2.ensures.value ∙ c.in_ok-listed.ensures.same)
                ∙ ap (λ (slices : List (Bor (List ℕ))). start ++ flat_map value_text
                (filter (λ value. list_all (λ a. is_covered a value) all) (lent slices))) c.deref-3.ensures.value,
          ));
    }
