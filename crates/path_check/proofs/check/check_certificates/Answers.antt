use Rattle.std.proofs.Common.{◌≡◌, false, true, ap, subst, ◌∙◌}
use Rattle.std.specs.Prelude.{OnOk}
use Rattle.der_core.specs.Asked.{AllHold}
use Rattle.path_check.specs.Conditions.{members_at, path_conditions}
use Rattle.path_check.specs.Faults.{FailsFirst}
use Rattle.path_check.proofs.MemberLemmas.{places_within, anchor_within, same_anchor}
use Rattle.path_check.proofs.check.check_certificates.Goals as goal

pub unreachable-requires : goal.unreachable-requires
unreachable-requires c =
    let e : false ≡ true = c.in_default.ensures.lookup.2
    (anchor_within c.args.certs.now c.args.anchors.now c.requires.path.0 c.args.path.now
    c.path.inside.anchor (ap (λ p. p.anchor) c.path.view_is) c.requires.path.1) in
    cc

pub check_members-requires-clause-within : goal.check_members-requires-clause-within
check_members-requires-clause-within c =
    places_within c.args.certs.now c.args.anchors.now c.requires.path.0 c.args.path.now
    c.deref.result.now (c.deref.ensures.value ∙ ap (λ p. p.members) c.path.view_is) c.requires.path.1

pub returns-clause-sound : goal.returns-clause-sound
returns-clause-sound c = λ anchor is.
    let certificates = c.args.certs.now in
    let places = c.deref.ensures.value ∙ ap (λ p. p.members) c.path.view_is in
    let within = anchor_within c.args.certs.now c.args.anchors.now c.requires.path.0 c.args.path.now
    c.path.inside.anchor (ap (λ p. p.anchor) c.path.view_is) c.requires.path.1 in
    let same = same_anchor c.args.anchors.now c.path.inside.anchor c.args.path.now.anchor c.in-Some.anchor.now anchor
    (ap (λ p. p.anchor) c.path.view_is) within c.in-Some.ensures.lookup.1 is in
    subst (λ a. OnOk c.check_members.result (AllHold (path_conditions c.args.at a (members_at certificates c.args.path.now.members)))) same
    (subst (λ l. OnOk c.check_members.result (AllHold (path_conditions c.args.at c.in-Some.anchor.now (members_at certificates l)))) places
    c.check_members.ensures.sound)

pub returns-clause-fails : goal.returns-clause-fails
returns-clause-fails c = λ anchor is.
    let certificates = c.args.certs.now in
    let places = c.deref.ensures.value ∙ ap (λ p. p.members) c.path.view_is in
    let within = anchor_within c.args.certs.now c.args.anchors.now c.requires.path.0 c.args.path.now
    c.path.inside.anchor (ap (λ p. p.anchor) c.path.view_is) c.requires.path.1 in
    let same = same_anchor c.args.anchors.now c.path.inside.anchor c.args.path.now.anchor c.in-Some.anchor.now anchor
    (ap (λ p. p.anchor) c.path.view_is) within c.in-Some.ensures.lookup.1 is in
    subst (λ a. FailsFirst c.check_members.result (path_conditions c.args.at a (members_at certificates c.args.path.now.members)))
    same
    (subst (λ l. FailsFirst c.check_members.result (path_conditions c.args.at c.in-Some.anchor.now (members_at certificates l)))
    places c.check_members.ensures.fails)
