use Rattle.std.proofs.Common.{◌≡◌, ◌++◌, ◌∷◌, [], List, ℕ, Bor, sym, ap, refl, ◌∙◌, append_assoc}
use Rattle.std.proofs.lemmas.List.{map-append, append-nil}
use Rattle.constraint_meet.specs.Permits.{values_in}
use Rattle.constraint_meet.proofs.ValueLemmas.{values_more, values_none}
use Rattle.explain_text.specs.Ordered.{lent}
use Rattle.explain_text.proofs.listed.push_values.Goals as goal

-- one that was left is pushed
one_pushed : (all pushed : List (Bor (List ℕ))) (value : Bor (List ℕ)) (left rest : List (List ℕ))
    → left ≡ value.now ∷ rest → pushed ≡ all ++ value ∷ [] → lent all ++ left ≡ lent pushed ++ rest
one_pushed all pushed value left rest more is =
    ap (λ (back : List (List ℕ)). lent all ++ back) more ∙ sym (append_assoc (lent all) (value.now ∷ []) rest)
    ∙ ap (λ (front : List (List ℕ)). front ++ rest)
    (sym (map-append (λ (slice : Bor (List ℕ)). slice.now) all (value ∷ []))
    ∙ ap (λ (slices : List (Bor (List ℕ))). lent slices) (sym is))

pub loop-value-preserved : goal.loop-value-preserved
loop-value-preserved c =
    let more = values_more c.loop-value.items c.next.new.self c.in-Some.value.now
    (c.in-Some.field-0-0, (c.in-Some.field-0-1.now, c.next.new.self)) c.loop-value.invariant.0 c.in-Some.ensures.exact
    c.in-Some.ensures.element.1 refl in (
      more.0,
      c.loop-value.invariant.1
          ∙ one_pushed c.loop-value.all.items c.push.new.self.items c.in-Some.value (values_in c.loop-value.items)
          (values_in c.next.new.self) more.1 c.in_ok-push.ensures.items,
    )

pub returns : goal.returns
returns c =
    sym (c.loop-value.invariant.1 ∙ ap (λ (back : List (List ℕ)). lent c.loop-value.all.items ++ back)
    (values_none c.loop-value.items c.loop-value.invariant.0 c.in_default.ensures.exact)
    ∙ append-nil (lent c.loop-value.all.items))
