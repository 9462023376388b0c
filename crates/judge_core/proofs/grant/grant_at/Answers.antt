use Rattle.std.proofs.Common.{◌≡◌, ◌<◌, ◌++◌, ℕ, List, length, false, true, Some, is_some, slice_get, refl, sym, ap, subst, ◌∙◌}
use Rattle.std.specs.List.{AllZip}
use Rattle.std.proofs.lemmas.Option.{slice_get_read}
use Rattle.constraint_meet.specs.Grants.{Members, of_anchor}
use Rattle.constraint_meet.specs.GrantView.{constraints_view}
use Rattle.path_check.specs.Checked.{HasConstraints}
use Rattle.path_check.specs.Conditions.{members_at}
use Rattle.path_check.proofs.MemberLemmas.{places_within, anchor_within}
use Rattle.path_check.proofs.PermitLemmas.{lent}
use Rattle.judge_core.proofs.GrantLemmas.{IsMade, told_made, grant_is, zip_reads}
use Rattle.judge_core.proofs.grant.grant_at.Goals as goal

pub unreachable-requires : goal.unreachable-requires
unreachable-requires c =
    let place = ap (λ p. p.anchor) c.path.view_is in
    let e : false ≡ true = c.in_default.ensures.lookup.2
    (subst (λ anchors. c.path.inside.anchor < length anchors) (sym c.as_slice.ensures.anchors)
    (anchor_within c.args.certs.now c.args.owner.now.anchors c.requires.path.0 c.args.path.now
    c.path.inside.anchor place c.requires.path.1)) in
    cc

pub with_members-requires : goal.with_members-requires
with_members-requires c = record {
  within =
      places_within c.args.certs.now c.args.owner.now.anchors c.requires.path.0 c.args.path.now
      c.as_slice-places.result.now (c.as_slice-places.ensures.value ∙ ap (λ p. p.members) c.path.view_is) c.requires.path.1;
}

pub returns-in-Some-2 : goal.returns-in-Some-2
returns-in-Some-2 c =
    let owner = c.args.owner.now in
    let certs = c.args.certs.now in
    let place = ap (λ p. p.anchor) c.path.view_is in
    let anchor = c.in-Some.anchor.now in
    let less = anchor_within certs owner.anchors c.requires.path.0 c.args.path.now c.path.inside.anchor place c.requires.path.1 in
    let lent_less : c.path.inside.anchor < length c.as_slice.result.now =
    subst (λ anchors. c.path.inside.anchor < length anchors) (sym c.as_slice.ensures.anchors) less in
    let there : slice_get c.as_slice.result.now c.path.inside.anchor ≡ Some anchor =
    slice_get_read c.as_slice.result.now (length c.as_slice.result.now) c.path.inside.anchor anchor refl lent_less
    c.in-Some.ensures.lookup.1 in
    let found : slice_get owner.anchors c.args.path.now.anchor ≡ Some anchor =
    subst (λ n. slice_get owner.anchors n ≡ Some anchor) place
    (subst (λ anchors. slice_get anchors c.path.inside.anchor ≡ Some anchor) c.as_slice.ensures.anchors there) in
    let places : c.as_slice-places.result.now ≡ c.args.path.now.members = c.as_slice-places.ensures.value ∙ ap (λ p. p.members) c.path.view_is in
    let above : c.in_ok-above.above ≡ of_anchor anchor.constraints =
    c.in_ok-above.ensures.more ∙ ap (λ (g : Members). g ++ of_anchor (constraints_view c.as_ref.result)) c.everything.ensures.same
    ∙ ap of_anchor (lent c.as_ref.result anchor.constraints (c.as_ref.ensures.value ∙ c.constraints.ensures.constraints)) in
    let made = told_made (members_at certs c.as_slice-places.result.now) c.in_ok-above.above c.in_ok-grant.field-0 c.in-Some-2.grant
    c.in-Some-2.is c.in_ok-grant.ensures.told in
    record {
      told =
          grant_is owner certs c.args.path.now anchor
          (record { certificates = length c.as_slice-places.result.now; anchor = c.path.inside.anchor; grant = c.in-Some-2.grant })
          c.in_ok-above.above (ap length places) place found above
          (subst (λ ps. IsMade (members_at certs ps) c.in_ok-above.above c.in-Some-2.grant) places made);
    }

pub returns-in-None : goal.returns-in-None
returns-in-None c = record {
  told = λ other granted.
      c.in_ok-grant.ensures.none (ap is_some c.in-None.is)
      (zip_reads (members_at c.args.certs.now c.as_slice-places.result.now) granted.constraints
      (subst (λ (places : List ℕ). AllZip HasConstraints (members_at c.args.certs.now places) granted.constraints)
      (sym (c.as_slice-places.ensures.value ∙ ap (λ p. p.members) c.path.view_is)) granted.read));
}
