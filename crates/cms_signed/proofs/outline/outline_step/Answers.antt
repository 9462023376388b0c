use Rattle.std.proofs.Common.{◌≡◌, ◌+◌, ◌++◌, ℕ, List, [], length, take, Some, arith, sym, subst, ap, ◌∙◌}
use Rattle.std.proofs.lemmas.List.{length-take, take_all}
use Rattle.cms_signed.specs.Outline.{Seen, Sees}
use Rattle.cms_signed.proofs.OutlineLemmas.{at_cut, at_known, content_more, content_whole, cut_place, from_cut}
use Rattle.cms_signed.proofs.OutlineLemmas.{sees_content, is_content, sees_rest, is_rest}
use Rattle.cms_signed.proofs.outline.outline_step.Goals as goal

pub returns-then-outline-size-clause-seen : goal.returns-then-outline-size-clause-seen
returns-then-outline-size-clause-seen c item sees =
    let here = at_cut _ _ _ item c.in-Some.field-0-0 c.in-Some.size c.in-Some.is
    (subst (λ (z : Seen). Sees z item) (sym c.outline.view_is) sees) in
    let wide : length (take c.min-n.result c.args.piece.now) ≡ c.min-n.result =
    omega (arith, length-take c.min-n.result c.args.piece.now, c.min-n.ensures) in
    from_cut _ _ _ _ c.in-Some.field-0-0 c.in-Some.size c.in-Some.is
    (subst (λ (k : ℕ). Sees (record {
      frame = c.outline.inside.frame.items;
      cut = Some (c.in-Some.field-0-0, c.in-Some.size);
      count = c.outline.inside.count + k;
    }) (item ++ take c.min-n.result c.args.piece.now)) wide
    (sees_content _ _ _ _ item (take c.min-n.result c.args.piece.now) here
    (omega (arith, wide, c.min-n.ensures)) (omega arith)))

pub returns-then-outline-size-clause-part : goal.returns-then-outline-size-clause-part
returns-then-outline-size-clause-part c item sees i lt =
    let here = at_cut _ _ _ item c.in-Some.field-0-0 c.in-Some.size c.in-Some.is
    (subst (λ (z : Seen). Sees z item) (sym c.outline.view_is) sees) in
    is_content _ _ _ _ item (take i c.args.piece.now) here
    (omega (arith, length-take i c.args.piece.now, c.min-n.ensures))

pub returns-clause-seen : goal.returns-clause-seen
returns-clause-seen c item sees =
    let here = at_cut _ _ _ item c.in-Some.field-0-0 c.in-Some.size c.in-Some.is
    (subst (λ (z : Seen). Sees z item) (sym c.outline.view_is) sees) in
    let all : c.extend_from_slice.new.self.items ≡ c.outline.inside.frame.items ++ c.args.piece.now =
    c.in_ok-extend_from_slice.ensures.items in
    let whole : take (length c.args.piece.now) c.args.piece.now ≡ c.args.piece.now =
    take_all (length c.args.piece.now) c.args.piece.now (omega arith) in
    subst (λ (x : List ℕ). Sees (record { frame = x; cut = c.outline.inside.cut; count = c.outline.inside.count })
    (item ++ take (length c.args.piece.now) c.args.piece.now)) (sym all)
    (subst (λ (x : List ℕ). Sees (record {
      frame = c.outline.inside.frame.items ++ c.args.piece.now;
      cut = c.outline.inside.cut;
      count = c.outline.inside.count;
    }) (item ++ x)) (sym whole)
    (from_cut _ _ _ _ c.in-Some.field-0-0 c.in-Some.size c.in-Some.is
    (sees_rest _ _ _ _ item c.args.piece.now here (omega arith))))

pub returns-clause-part : goal.returns-clause-part
returns-clause-part c item sees i lt =
    let here = at_cut _ _ _ item c.in-Some.field-0-0 c.in-Some.size c.in-Some.is
    (subst (λ (z : Seen). Sees z item) (sym c.outline.view_is) sees) in
    is_rest _ _ _ _ item (take i c.args.piece.now) here (omega arith)

pub returns-then-outline-size-clause-content : goal.returns-then-outline-size-clause-content
returns-then-outline-size-clause-content c item sees =
    let here = at_cut _ _ _ item c.in-Some.field-0-0 c.in-Some.size c.in-Some.is
    (subst (λ (z : Seen). Sees z item) (sym c.outline.view_is) sees) in
    let wide : length (take c.min-n.result c.args.piece.now) ≡ c.min-n.result =
    omega (arith, length-take c.min-n.result c.args.piece.now, c.min-n.ensures) in
    let before : c.args.outline.now.cut ≡ Some (c.in-Some.field-0-0, c.in-Some.size) =
    sym (ap (λ (z : Seen). z.cut) c.outline.view_is) ∙ c.in-Some.is in
    at_known _ c.in-Some.field-0-0 c.in-Some.size _ c.in-Some.is
    ∙ content_more c.in-Some.field-0-0 c.in-Some.size item (take c.min-n.result c.args.piece.now)
    (cut_place item _ _ here.0) (omega (arith, wide, c.min-n.ensures, here.2))
    ∙ ap (λ (x : List ℕ). x ++ take c.min-n.result c.args.piece.now) (sym (at_known _ _ _ item before))

pub returns-clause-content : goal.returns-clause-content
returns-clause-content c item sees =
    let here = at_cut _ _ _ item c.in-Some.field-0-0 c.in-Some.size c.in-Some.is
    (subst (λ (z : Seen). Sees z item) (sym c.outline.view_is) sees) in
    let before : c.args.outline.now.cut ≡ Some (c.in-Some.field-0-0, c.in-Some.size) =
    sym (ap (λ (z : Seen). z.cut) c.outline.view_is) ∙ c.in-Some.is in
    at_known _ c.in-Some.field-0-0 c.in-Some.size _ c.in-Some.is
    ∙ content_whole c.in-Some.field-0-0 c.in-Some.size item (take (length c.args.piece.now) c.args.piece.now)
    (cut_place item _ _ here.0) (omega (arith, here.2))
    ∙ ap (λ (x : List ℕ). x ++ []) (sym (at_known _ _ _ item before))
