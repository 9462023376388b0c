use Rattle.std.proofs.Common.{List, ℕ, map, string_bytes, subst, OnOk}
use Rattle.std.proofs.lemmas.List.Sorted.{IsPermutation-map}
use Rattle.der_core.specs.AttributeView.{attribute_view}
use Rattle.der_core.specs.declared.attribute.Attr.{Attr}
use Rattle.explain_text.specs.Granted.{IsKind}
use Rattle.explain_text.specs.GrantText.{IsKindLine}
use Rattle.explain_text.specs.Ordered.{Adds, AreExactly, AreTexts}
use Rattle.explain_text.proofs.Shares.{same_lines}
use Rattle.explain_text.proofs.Texts.{on_ok}
use Rattle.explain_text.proofs.grant.push_kinds.Goals as goal

pub returns : goal.returns
returns c =
    let these = map attribute_view c.args.attributes.items in
    let those = map attribute_view c.in_order-attributes.result.items in
    let same = IsPermutation-map attribute_view _ _ c.in_order-attributes.ensures.same in
    let kinds = c.in_ok-kinds.kinds.items in
    let start = string_bytes c.args.text.now in
    let end = string_bytes c.push_each_kind.new.text in
    let are = subst (λ (attributes : List Attr). AreExactly (IsKind (map attribute_view attributes)) kinds)
    c.deref.ensures.value c.in_ok-kinds.ensures in
    let of_those = subst (λ (attributes : List Attr). OnOk c.push_each_kind.result
    (Adds (AreTexts (IsKindLine (map attribute_view attributes)) c.deref-3.result.now) start end))
    c.deref-2.ensures.value c.push_each_kind.ensures.ok in
    let of_kinds = subst (λ (ks : List (List ℕ)). OnOk c.push_each_kind.result
    (Adds (AreTexts (IsKindLine those) ks) start end)) c.deref-3.ensures.value of_those in
    record {
      ok =
          on_ok c.push_each_kind.result of_kinds
          (λ added. (added.0, same_lines these those same kinds added.0 are added.1, added.2));
    }
