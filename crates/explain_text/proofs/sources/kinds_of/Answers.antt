use Rattle.std.proofs.Common.{List, ℕ, map, sym, ap, subst, ◌∙◌, arith}
use Rattle.std.specs.Prelude.{Contains}
use Rattle.std.proofs.lemmas.List.{take_all}
use Rattle.der_core.specs.Attribute.{Attribute}
use Rattle.der_core.specs.AttributeView.{attribute_view}
use Rattle.der_core.specs.declared.attribute.Attr.{Attr}
use Rattle.explain_text.specs.Granted.{IsKind}
use Rattle.explain_text.proofs.Elements.{contains_map, contains_unmap}
use Rattle.explain_text.proofs.Orders.{exactly_also}
use Rattle.explain_text.proofs.sources.kinds_of.Goals as goal

module _ (attributes : List Attr) (kind : List ℕ) where
  is_kind : Contains (map (λ a. a.kind) attributes) kind → IsKind (map attribute_view attributes) kind
  is_kind at =
      let found = contains_unmap (λ (a : Attr). a.kind) attributes kind at in
      (attribute_view found.0, contains_map attribute_view attributes found.0 found.1, found.2)

  kind_is : IsKind (map attribute_view attributes) kind → Contains (map (λ a. a.kind) attributes) kind
  kind_is (attribute, at, is) =
      let found = contains_unmap attribute_view attributes attribute at in
      subst (Contains (map (λ a. a.kind) attributes)) (ap (λ (a : Attribute). a.kind) found.2 ∙ is)
      (contains_map (λ (a : Attr). a.kind) attributes found.0 found.1)

pub returns : goal.returns
returns c =
    let attributes = c.args.attributes.now in
    let all = c.loop-attribute.invariant ∙ ap (λ (front : List Attr). map (λ a. a.kind) front)
    (take_all c.loop-attribute.attribute-index attributes (omega (arith, c.loop-attribute-test.false))) in
    exactly_also c.put_types_in_order.new.types.items
    (λ kind at. is_kind attributes kind (subst (λ (kinds : List (List ℕ)). Contains kinds kind) all at))
    (λ kind is. subst (λ (kinds : List (List ℕ)). Contains kinds kind) (sym all) (kind_is attributes kind is))
    c.put_types_in_order.ensures
