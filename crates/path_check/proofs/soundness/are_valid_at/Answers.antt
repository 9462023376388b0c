use Rattle.std.proofs.Common.{length, map, refl}
use Rattle.std.proofs.lemmas.Option.{slice_get_read}
use Rattle.path_check.specs.Conditions.{IsValidAt}
use Rattle.path_check.specs.Members.{member_view}
use Rattle.path_check.proofs.AllLemmas.{at_view, all_more, not_all}
use Rattle.path_check.proofs.KeyLemmas.{untrue}
use Rattle.path_check.proofs.soundness.are_valid_at.Goals as goal

pub returns-then-not-is_valid_at : goal.returns-then-not-is_valid_at
returns-then-not-is_valid_at c = record {
  valid =
      not_all (IsValidAt c.args.at.now) (map member_view c.args.members.now) c.loop-member.member-index
      (member_view c.member-item.result)
      (at_view member_view c.args.members.now c.loop-member.member-index c.member-item.result
      (slice_get_read c.args.members.now (length c.args.members.now) c.loop-member.member-index c.member-item.result refl
      c.loop-member-test.true c.member-item.is))
      (untrue c.if-not-is_valid_at.true c.is_valid_at.ensures.valid);
}

pub loop-member-preserved : goal.loop-member-preserved
loop-member-preserved c =
    all_more (IsValidAt c.args.at.now) (map member_view c.args.members.now) c.loop-member.member-index
    (member_view c.member-item.result) c.loop-member.invariant
    (at_view member_view c.args.members.now c.loop-member.member-index c.member-item.result
    (slice_get_read c.args.members.now (length c.args.members.now) c.loop-member.member-index c.member-item.result refl
    c.loop-member-test.true c.member-item.is))
    (c.is_valid_at.ensures.valid.0 c.if-not-is_valid_at.false)
