use Rattle.std.proofs.Common.{length, map, refl}
use Rattle.std.proofs.lemmas.Option.{slice_get_read}
use Rattle.path_check.specs.Conditions.{HasKey}
use Rattle.path_check.specs.Members.{member_view}
use Rattle.path_check.proofs.AllLemmas.{at_view, all_more, not_all}
use Rattle.path_check.proofs.KeyLemmas.{untrue}
use Rattle.path_check.proofs.soundness.have_keys.Goals as goal

pub returns-then-not-has_key : goal.returns-then-not-has_key
returns-then-not-has_key c = record {
  keys =
      not_all (HasKey) (map member_view c.args.members.now) c.loop-member.member-index
      (member_view c.member-item.result)
      (at_view member_view c.args.members.now c.loop-member.member-index c.member-item.result
      (slice_get_read c.args.members.now (length c.args.members.now) c.loop-member.member-index c.member-item.result refl
      c.loop-member-test.true c.member-item.is))
      (untrue c.if-not-has_key.true c.has_key.ensures.key);
}

pub loop-member-preserved : goal.loop-member-preserved
loop-member-preserved c =
    all_more (HasKey) (map member_view c.args.members.now) c.loop-member.member-index
    (member_view c.member-item.result) c.loop-member.invariant
    (at_view member_view c.args.members.now c.loop-member.member-index c.member-item.result
    (slice_get_read c.args.members.now (length c.args.members.now) c.loop-member.member-index c.member-item.result refl
    c.loop-member-test.true c.member-item.is))
    (c.has_key.ensures.key.0 c.if-not-has_key.false)
