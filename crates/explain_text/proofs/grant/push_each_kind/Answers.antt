use Rattle.std.proofs.Common.{◌++◌, ◌∷◌, [], List, ℕ, map, take, string_bytes, refl, sym, ap, subst, ◌∙◌}
use Rattle.std.proofs.lemmas.List.{take_more}
use Rattle.der_core.specs.AttributeView.{attribute_view}
use Rattle.explain_text.specs.GrantText.{kind_line, IsKindLine}
use Rattle.explain_text.specs.Kept.{IsGroup}
use Rattle.explain_text.specs.Ordered.{Adds, AreTexts}
use Rattle.explain_text.proofs.Shares.{shared_of_group}
use Rattle.explain_text.proofs.Texts.{adds_more}
use Rattle.explain_text.proofs.grant.push_each_kind.Goals as goal

pub loop-kind-preserved : goal.loop-kind-preserved
loop-kind-preserved c =
    let all = map attribute_view c.args.attributes.now in
    let kinds = c.args.kinds.now in
    let i = c.loop-kind.kind-index in
    let kind = c.kind-item.result in
    let group = map attribute_view c.group_of.result.now in
    let pushed = c.in_ok-push_kind.ensures.ok in
    let values = pushed.0 in
    let is = subst (λ (octets : List ℕ). IsGroup all octets group) c.octets.ensures.value c.group_of.ensures in
    let line : IsKindLine all kind (kind_line kind values) =
    (values, shared_of_group all group kind is values pushed.1, refl) in
    subst (λ (front : List (List ℕ)). Adds (AreTexts (IsKindLine all) front) (string_bytes c.args.text.now)
    (string_bytes c.push_kind.new.text))
    (ap (λ (k : List ℕ). take i kinds ++ k ∷ []) c.kind-item.is ∙ sym (take_more kinds i kind c.loop-kind-test.true))
    (adds_more (IsKindLine all) (take i kinds) kind (string_bytes c.args.text.now) (string_bytes c.loop-kind.text)
    (string_bytes c.push_kind.new.text) c.loop-kind.invariant (kind_line kind values, line, pushed.2))
