use Rattle.std.proofs.Common.{◌++◌, take, refl, sym, ap, subst, ◌∙◌}
use Rattle.constraint_meet.specs.Grants.{of_certificate}
use Rattle.path_check.specs.Conditions.{Reads, members_at}
use Rattle.path_check.proofs.MemberLemmas.{members_more, member_among, reads_none, there}
use Rattle.path_check.proofs.PermitLemmas.{lent}
use Rattle.judge_core.proofs.GrantLemmas.{IsMade, one_made}
use Rattle.judge_core.proofs.grant.with_members.Goals as goal

pub returns-in_default-clause-none : goal.returns-in_default-clause-none
returns-in_default-clause-none c = λ none all.
    let n = c.loop-place.place-index in
    reads_none c.index-certs-place.result c.in_ok-extensions.field-0 c.in_default.is c.in_ok-extensions.ensures.spelled
    (member_among c.args.certs.now Reads c.args.places.now n c.index-certs-place.result c.loop-place-test.true
    (there c.args.certs.now c.args.places.now n c.index-certs-place.result c.loop-place-test.true
    c.requires.within c.index-certs-place.is) all)

pub loop-place-preserved : goal.loop-place-preserved
loop-place-preserved c =
    let n = c.loop-place.place-index in
    let cert = c.index-certs-place.result in
    let here = there c.args.certs.now c.args.places.now n cert c.loop-place-test.true c.requires.within c.index-certs-place.is in
    let more = members_more c.args.certs.now c.args.places.now n cert c.loop-place-test.true here in
    let e = c.in-Some.extensions in
    subst (λ cs. IsMade cs c.args.above c.in_ok-grant.grant) (sym more)
    (one_made (members_at c.args.certs.now (take n c.args.places.now)) cert e.constraints c.args.above c.loop-place.grant c.in_ok-grant.grant
    c.loop-place.invariant
    (e, (c.in_ok-extensions.ensures.spelled e).0 c.in-Some.is, refl)
    (c.in_ok-grant.ensures.more
    ∙ ap (λ k. c.loop-place.grant ++ of_certificate k) (lent c.as_ref.result e.constraints c.as_ref.ensures.value)))
