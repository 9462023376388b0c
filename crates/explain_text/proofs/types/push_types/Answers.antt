use Rattle.std.proofs.Common.{◌≡◌, ◌+◌, ◌++◌, ◌∷◌, [], List, ℕ, map, take, sym, ap, subst, ◌∙◌, arith, Vec, Global}
use Rattle.std.proofs.lemmas.Bool.{false≢true}
use Rattle.std.proofs.lemmas.List.{map_more, take_all}
use Rattle.std.proofs.lemmas.Slice.Eq.{bytes_eq-Decides}
use Rattle.cert_fields.specs.ConstraintsView.{entry_view}
use Rattle.cert_fields.specs.declared.entries.CccEntry.{CccEntry}
use Rattle.constraint_meet.specs.Permits.{any_content}
use Rattle.explain_text.proofs.AddedTypes.{AreAdded, added_as, one_added, one_passed}
use Rattle.explain_text.proofs.types.push_types.Goals.{then-not-is_any_content+in_ok-push, else-not-is_any_content}
use Rattle.explain_text.proofs.types.push_types.Goals as goal

pub loop-entry-preserved : goal.loop-entry-preserved
loop-entry-preserved c =
    let entries = c.args.entries.now in
    let i = c.loop-entry.entry-index in
    let entry = entry_view c.entry-item.result in
    let before = map entry_view (take i entries) in
    let more : map entry_view (take (i + 1) entries) ≡ before ++ entry ∷ [] =
    map_more entry_view entries i c.entry-item.result c.loop-entry-test.true
    ∙ ap (λ (e : CccEntry). before ++ entry_view e ∷ []) (sym c.entry-item.is) in
    elim c.if-not-is_any_content.branch [
      | then-not-is_any_content+in_ok-push w ↦
          added_as _ c.if-not-is_any_content.types.items c.args.types.now.items _ _
          (ap (λ (types : Vec (List ℕ) Global). types.items) w.types-is ∙ w.in_ok-push.ensures.items) more
          (one_added c.loop-entry.types.items c.args.types.now.items before entry c.loop-entry.invariant
          (λ any. false≢true (w.if-not-is_any_content.ensures ∙ (bytes_eq-Decides entry.content any_content).1 any)))
      | else-not-is_any_content w ↦
          added_as _ c.if-not-is_any_content.types.items c.args.types.now.items _ _
          (ap (λ (types : Vec (List ℕ) Global). types.items) w.types-is) more
          (one_passed c.loop-entry.types.items c.args.types.now.items before entry c.loop-entry.invariant
          ((bytes_eq-Decides entry.content any_content).0 (sym w.if-not-is_any_content.ensures)))
    ]

pub returns : goal.returns
returns c =
    subst (λ (entries : List CccEntry). AreAdded c.loop-entry.types.items c.args.types.now.items (map entry_view entries))
    (take_all c.loop-entry.entry-index c.args.entries.now (omega (arith, c.loop-entry-test.false))) c.loop-entry.invariant
