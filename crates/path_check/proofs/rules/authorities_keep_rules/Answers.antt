use Rattle.std.proofs.Common.{◌≡◌, Bool, true, false, length, map, refl, sym, ap, ◌∙◌, ◌+◌, cond, not, arith}
use mir.Val.{bool_byte}
use Rattle.std.proofs.lemmas.Option.{slice_get_read}
use Rattle.std.proofs.lemmas.List.{length-map}
use Rattle.path_check.specs.PathRules.{is_self_issued}
use Rattle.path_check.specs.Members.{member_view, IsRead}
use Rattle.path_check.proofs.AllLemmas.{all_at, at_view}
use Rattle.path_check.proofs.KeyLemmas.{untrue}
use Rattle.path_check.proofs.RuleLemmas.{counted_more, kept_more, kept_all, not_kept}
use Rattle.path_check.proofs.rules.authorities_keep_rules.Goals as goal

pub authority_keeps_rules-requires : goal.authority_keeps_rules-requires
authority_keeps_rules-requires c = record {
  read =
      all_at IsRead c.args.above.now c.loop-member.member-index c.member-item.result c.requires.read
      (slice_get_read c.args.above.now (length c.args.above.now) c.loop-member.member-index c.member-item.result refl
      c.loop-member-test.true c.member-item.is);
}

pub returns-then-not-authority_keeps_rules : goal.returns-then-not-authority_keeps_rules
returns-then-not-authority_keeps_rules c = record {
  keep =
      not_kept (map member_view c.args.above.now) c.loop-member.member-index c.loop-member.below
      (member_view c.member-item.result)
      (at_view member_view c.args.above.now c.loop-member.member-index c.member-item.result
      (slice_get_read c.args.above.now (length c.args.above.now) c.loop-member.member-index c.member-item.result refl
      c.loop-member-test.true c.member-item.is))
      c.loop-member.invariant.0 (untrue c.if-not-authority_keeps_rules.true c.authority_keeps_rules.ensures.keeps);
}

byte_is : (b : Bool) → bool_byte b ≡ cond b 1 0
byte_is true = refl
byte_is false = refl

pub loop-member-preserved : goal.loop-member-preserved
loop-member-preserved c =
    let above = map member_view c.args.above.now in
    let member = member_view c.member-item.result in
    let there = at_view member_view c.args.above.now c.loop-member.member-index c.member-item.result
    (slice_get_read c.args.above.now (length c.args.above.now) c.loop-member.member-index c.member-item.result refl
    c.loop-member-test.true c.member-item.is) in (
      ap (λ n. c.loop-member.below + n)
          (c.from-below.ensures ∙ ap (λ b. bool_byte (not b)) c.is_self_issued.ensures.issued
          ∙ byte_is (not (is_self_issued member)))
          ∙ ap (λ n. n + cond (not (is_self_issued member)) 1 0) c.loop-member.invariant.0
          ∙ sym (counted_more above c.loop-member.member-index member there),
      kept_more above c.loop-member.member-index c.loop-member.below member c.loop-member.invariant.1 there
          c.loop-member.invariant.0 (c.authority_keeps_rules.ensures.keeps.0 c.if-not-authority_keeps_rules.false),
    )

pub returns : goal.returns
returns c = record {
  keep = (
    λ t.
        kept_all (map member_view c.args.above.now) c.loop-member.member-index
        (let size = length-map c.args.above.now member_view in omega (arith, size, c.loop-member-test.false))
        c.loop-member.invariant.1,
    λ all. refl,
  );
}
