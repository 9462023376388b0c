use Rattle.std.proofs.Common.{map}
use Rattle.path_check.specs.Members.{member_view}
use Rattle.path_check.proofs.PermitLemmas.{path_permits, some_key_above}
use Rattle.path_check.proofs.check.hand_on.Goals as goal

pub unreachable-requires : goal.unreachable-requires
unreachable-requires c =
    let members = map member_view c.args.members.now in
    let some = some_key_above c.args.anchor.now c.args.anchor_key.now members c.requires.only c.requires.keys in
    c.in_default.not-Some some.0 ((c.key_above.ensures.above c.args.anchor.now c.requires.only some.0).1 some.1)

pub returns : goal.returns
returns c = record {
  handed = record {
    key = (c.key_above.ensures.above c.args.anchor.now c.requires.only c.in-Some.key).0 c.in-Some.is;
    permits =
        path_permits c.side_by_side.ensures.path c.args.members.now c.args.anchor.now c.in_ok-effective.effective
        c.requires.read c.in_ok-effective.ensures.value;
    anchor_key_id = c.key_id.ensures.key_id;
  };
}
