use Rattle.std.proofs.Common.{ℕ, ◌≡◌, ◌↔◌, ◌<◌, ◌+◌, get_or, List, Some, length, map, slice_get, refl, subst, arith}
use Rattle.std.specs.Prelude.{IsTrue}
use Rattle.std.proofs.lemmas.Option.{slice_get_read}
use Rattle.std.proofs.lemmas.List.{length-map}
use Rattle.cert_fields.specs.Certificate.{Certificate}
use Rattle.path_check.specs.Members.{member_view}
use Rattle.path_check.specs.declared.member.Member.{Member}
use Rattle.path_check.proofs.AllLemmas.{at_view}
use Rattle.path_check.proofs.SignedLemmas.{signed_more, signed_not, signed_all, above_view, IsSignedAbove}
use Rattle.path_check.proofs.soundness.are_signed.Goals as goal

-- the member at a place
there : (members : List Member) (place : ℕ) (m : Member) → place < length members → m ≡ get_or members place m
    → slice_get (map member_view members) place ≡ Some (member_view m)
there members place m less is =
    at_view member_view members place m (slice_get_read members (length members) place m refl less is)

pub loop-place-preserved : goal.loop-place-preserved
loop-place-preserved c = λ anchor is.
    let above = map member_view c.args.members.now in
    let place = c.loop-place.place in
    let member = c.index-members-place.result in
    signed_more anchor above place (member_view member) c.is_signed.result
    (there c.args.members.now place member c.loop-place-test.true c.index-members-place.is)
    c.if-not-is_signed.false
    (subst (λ (ms : List Certificate). IsTrue c.is_signed.result ↔ IsSignedAbove anchor (member_view member) ms)
    (above_view member_view (place + 1) c.args.members.now) (c.is_signed.ensures.signed anchor is))
    (c.loop-place.invariant anchor is)

pub returns-then-not-is_signed : goal.returns-then-not-is_signed
returns-then-not-is_signed c = record {
  signed = λ anchor is.
      let above = map member_view c.args.members.now in
      let place = c.loop-place.place in
      let member = c.index-members-place.result in
      signed_not anchor above place (member_view member) c.is_signed.result
      (there c.args.members.now place member c.loop-place-test.true c.index-members-place.is)
      c.if-not-is_signed.true
      (subst (λ (ms : List Certificate). IsTrue c.is_signed.result ↔ IsSignedAbove anchor (member_view member) ms)
      (above_view member_view (place + 1) c.args.members.now) (c.is_signed.ensures.signed anchor is))
      (c.loop-place.invariant anchor is);
}

pub returns : goal.returns
returns c = record {
  signed = λ anchor is.
      signed_all anchor (map member_view c.args.members.now) c.loop-place.place
      (let size = length-map c.args.members.now member_view in omega (arith, size, c.loop-place-test.false))
      (c.loop-place.invariant anchor is);
}
