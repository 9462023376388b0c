use Rattle.std.proofs.Common.{◌≡◌, ◌≤◌, ◌++◌, [], ◌∷◌, List, length, map, take, sym, ap, subst, ◌∙◌, arith}
use Rattle.std.specs.List.{AllByRecursion}
use Rattle.std.proofs.lemmas.List.{map-append, take_all}
use Rattle.cert_fields.specs.View.{certificate_view}
use Rattle.path_check.specs.Conditions.{Reads, members_at}
use Rattle.path_check.specs.Members.{member_view, IsRead}
use Rattle.path_check.specs.declared.member.Member.{Member}
use Rattle.path_check.proofs.MemberLemmas.{members_more, member_among, all_push, reads_none, reads_some, there}
use Rattle.path_check.proofs.member.read_members.Goals as goal

pub returns-in_default : goal.returns-in_default
returns-in_default c = record {
  told = λ all.
      let n = c.loop-place.place-index in
      reads_none (certificate_view c.cert-cert.result) c.in_ok-extensions.field-0 c.in_default.is
      c.in_ok-extensions.ensures.spelled
      (subst Reads (sym c.cert-cert.ensures.fields)
      (member_among c.args.certs.now Reads c.args.places.now n c.index-certs-place.result c.loop-place-test.true
      (there c.args.certs.now c.args.places.now n c.index-certs-place.result c.loop-place-test.true
      c.requires.within c.index-certs-place.is) all));
}

-- the members so far, and one more
pushed : (front : List Member) (m : Member) {reserved items : List Member} → reserved ≡ front
    → items ≡ reserved ++ m ∷ [] → items ≡ front ++ m ∷ []
pushed front m same is = is ∙ ap (λ (l : List Member). l ++ m ∷ []) same

pub loop-place-preserved : goal.loop-place-preserved
loop-place-preserved c =
    let n = c.loop-place.place-index in
    let certificates = c.args.certs.now in
    let cert = c.cert-cert.result in
    let kept = c.index-certs-place.result in
    let front = c.loop-place.members.items in
    let items = pushed front _ c.in_ok-reserve.ensures.items c.push_reserved.ensures.items in
    let here = there certificates c.args.places.now n kept c.loop-place-test.true c.requires.within c.index-certs-place.is in (
      ap (map member_view) items ∙ map-append member_view front _
          ∙ ap (λ l. l ++ certificate_view cert ∷ []) c.loop-place.invariant.0
          ∙ ap (λ one. members_at certificates (take n c.args.places.now) ++ one ∷ []) c.cert-cert.ensures.fields
          ∙ sym (members_more certificates c.args.places.now n kept c.loop-place-test.true here),
      subst (AllByRecursion IsRead) (sym items)
          (all_push IsRead front _ c.loop-place.invariant.1
          (record {
            extensions =
                reads_some (certificate_view cert) c.in_ok-extensions.field-0 c.in-Some.extensions c.in-Some.is
                c.in_ok-extensions.ensures.spelled;
            text = c.cert-cert.ensures.tbs;
          })),
    )

pub returns : goal.returns
returns c = record {
  told = (
    c.loop-place.invariant.0
        ∙ ap (members_at c.args.certs.now)
        (take_all c.loop-place.place-index c.args.places.now
        (let past : length c.args.places.now ≤ c.loop-place.place-index = omega (arith, c.loop-place-test.false) in past)),
    c.loop-place.invariant.1,
  );
}
