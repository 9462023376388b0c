use Rattle.std.proofs.Common.{◌++◌, ◌∷◌, [], List, ℕ, take, string_bytes, sym, ap, subst, ◌∙◌}
use Rattle.std.proofs.lemmas.List.{take_more}
use Rattle.explain_text.specs.GrantText.{AreLinesOf}
use Rattle.explain_text.specs.Ordered.{Adds, AreTexts}
use Rattle.explain_text.proofs.Texts.{adds_more}
use Rattle.explain_text.proofs.grant.push_types.Goals as goal

pub loop-content-preserved : goal.loop-content-preserved
loop-content-preserved c =
    let members = c.args.members.now in
    let types = c.args.types.now in
    let i = c.loop-content.content-index in
    let content = c.content-item.result in
    subst (λ (front : List (List ℕ)). Adds (AreTexts (AreLinesOf members) front) (string_bytes c.args.text.now)
    (string_bytes c.push_own_type.new.text))
    (ap (λ (t : List ℕ). take i types ++ t ∷ []) c.content-item.is
    ∙ sym (take_more types i content c.loop-content-test.true))
    (adds_more (AreLinesOf members) (take i types) content (string_bytes c.args.text.now) (string_bytes c.loop-content.text)
    (string_bytes c.push_own_type.new.text) c.loop-content.invariant c.in_ok-push_own_type.ensures.ok)
