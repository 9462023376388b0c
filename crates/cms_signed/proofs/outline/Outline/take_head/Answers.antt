use Rattle.std.proofs.Common.{◌≡◌, ◌<◌, ◌++◌, ℕ, List, [], take}
use Rattle.std.proofs.Common.{sym, subst, ap, ◌∙◌}
use Rattle.cms_signed.specs.Cut.{HasCut}
use Rattle.cms_signed.specs.Outline.{Seen, NoCut}
use Rattle.cms_signed.proofs.OutlineLemmas.{at_none, at_no_cut, content_none, before_all, ends_there}
use Rattle.cms_signed.proofs.OutlineLemmas.{no_content, head_whole, head_none, never}
use Rattle.cms_signed.proofs.outline.Outline.take_head.Goals as goal

pub returns-in-Ok-clause-seen : goal.returns-in-Ok-clause-seen
returns-in-Ok-clause-seen c item sees =
    let none = at_none c.args.self.now item c.requires sees in
    let front : c.self.inside.frame.items ≡ item = ap (λ (z : Seen). z.frame) c.self.view_is ∙ none.1 in
    let all : c.extend_from_slice.new.self.items ≡ c.self.inside.frame.items ++ take c.before_head-n.result c.args.piece.now =
    c.in_ok-extend_from_slice.ensures.items in
    let given : c.deref-2.result.now ≡ item ++ take c.before_head-n.result c.args.piece.now =
    c.deref-2.ensures.value ∙ all ∙ ap (λ (x : List ℕ). x ++ take c.before_head-n.result c.args.piece.now) front in
    let before : (i : ℕ) → i < c.before_head-n.result → NoCut (item ++ take i c.args.piece.now) =
    before_all c.deref.result.now item c.args.piece.now _ (c.deref.ensures.value ∙ front) none.0 c.before_head-n.ensures.none in
    head_whole item c.args.piece.now c.before_head-n.result c.in-Ok.cut.0 c.in-Ok.cut.1 c.extend_from_slice.new.self.items
    (all ∙ ap (λ (x : List ℕ). x ++ take c.before_head-n.result c.args.piece.now) front) none.0
    c.before_head-n.ensures.within before
    (subst (λ (x : List ℕ). HasCut x c.in-Ok.cut.0 c.in-Ok.cut.1) given c.in-Ok.ensures.found)

pub returns-in-Ok-clause-part : goal.returns-in-Ok-clause-part
returns-in-Ok-clause-part c item sees i lt =
    let none = at_none c.args.self.now item c.requires sees in
    let front : c.self.inside.frame.items ≡ item = ap (λ (z : Seen). z.frame) c.self.view_is ∙ none.1 in
    no_content (item ++ take i c.args.piece.now)
    (before_all c.deref.result.now item c.args.piece.now _ (c.deref.ensures.value ∙ front) none.0
    c.before_head-n.ensures.none i lt)

pub returns-in_default-clause-seen : goal.returns-in_default-clause-seen
returns-in_default-clause-seen c item sees =
    let none = at_none c.args.self.now item c.requires sees in
    let front : c.self.inside.frame.items ≡ item = ap (λ (z : Seen). z.frame) c.self.view_is ∙ none.1 in
    let all : c.extend_from_slice.new.self.items ≡ c.self.inside.frame.items ++ take c.before_head-n.result c.args.piece.now =
    c.in_ok-extend_from_slice.ensures.items in
    let given : c.deref-2.result.now ≡ item ++ take c.before_head-n.result c.args.piece.now =
    c.deref-2.ensures.value ∙ all ∙ ap (λ (x : List ℕ). x ++ take c.before_head-n.result c.args.piece.now) front in
    head_none item c.args.piece.now c.before_head-n.result c.extend_from_slice.new.self.items c.self.inside.cut
    c.self.inside.count
    (all ∙ ap (λ (x : List ℕ). x ++ take c.before_head-n.result c.args.piece.now) front)
    (ap (λ (z : Seen). z.cut) c.self.view_is ∙ c.requires) (ap (λ (z : Seen). z.count) c.self.view_is ∙ none.2)
    (subst NoCut given
    (never c.deref-2.result.now c.in_default.field-0 c.in_default.ensures.missing c.in_default.ensures.some))

pub returns-in_default-clause-part : goal.returns-in_default-clause-part
returns-in_default-clause-part c item sees i lt =
    let none = at_none c.args.self.now item c.requires sees in
    let front : c.self.inside.frame.items ≡ item = ap (λ (z : Seen). z.frame) c.self.view_is ∙ none.1 in
    no_content (item ++ take i c.args.piece.now)
    (before_all c.deref.result.now item c.args.piece.now _ (c.deref.ensures.value ∙ front) none.0
    c.before_head-n.ensures.none i lt)

pub returns-in-Ok-clause-content : goal.returns-in-Ok-clause-content
returns-in-Ok-clause-content c item sees =
    let h = (returns-in-Ok-clause-seen c item sees).0 in
    let none = at_none c.args.self.now item c.requires sees in
    let front : c.self.inside.frame.items ≡ item = ap (λ (z : Seen). z.frame) c.self.view_is ∙ none.1 in
    let before : (i : ℕ) → i < c.before_head-n.result → NoCut (item ++ take i c.args.piece.now) =
    before_all c.deref.result.now item c.args.piece.now _ (c.deref.ensures.value ∙ front) none.0 c.before_head-n.ensures.none in
    content_none c.in-Ok.cut.0 c.in-Ok.cut.1 (item ++ take c.before_head-n.result c.args.piece.now)
    (ends_there item c.args.piece.now c.before_head-n.result c.in-Ok.cut.0 c.in-Ok.cut.1 none.0
    c.before_head-n.ensures.within before h)
    ∙ sym (ap (λ (x : List ℕ). x ++ []) (at_no_cut c.args.self.now.cut item c.requires))

pub returns-in_default-clause-content : goal.returns-in_default-clause-content
returns-in_default-clause-content c item sees =
    at_no_cut c.self.inside.cut (item ++ take c.before_head-n.result c.args.piece.now)
    (ap (λ (z : Seen). z.cut) c.self.view_is ∙ c.requires)
    ∙ sym (ap (λ (x : List ℕ). x ++ []) (at_no_cut c.args.self.now.cut item c.requires))
