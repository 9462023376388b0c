use Rattle.std.proofs.Common.{◌≡◌, ◌++◌, take}
use Rattle.constraint_meet.proofs.joined.append_each.Given as goal

-- the members so far, and a copy of the first of the others
abbrev pub invariant-loop-member : goal.invariant-loop-member
invariant-loop-member l = l.members.items ≡ l.initial.members.items ++ take l.member-index l.more
