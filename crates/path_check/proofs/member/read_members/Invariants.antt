use Rattle.std.proofs.Common.{◌≡◌, map, take}
use Rattle.std.specs.List.{AllByRecursion}
use Rattle.path_check.specs.Conditions.{members_at}
use Rattle.path_check.specs.Members.{member_view, IsRead}
use Rattle.path_check.proofs.member.read_members.Given as goal

-- those so far, with what their extensions say
abbrev pub invariant-loop-place : goal.invariant-loop-place
invariant-loop-place l =
    (map member_view l.members.items ≡ members_at l.certs (take l.place-index l.places))
    × AllByRecursion IsRead l.members.items
