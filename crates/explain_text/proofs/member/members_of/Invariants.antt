use Rattle.std.proofs.Common.{◌≡◌, take}
use Rattle.explain_text.proofs.member.members_of.Given as goal

-- the members so far
abbrev pub invariant-loop-place : goal.invariant-loop-place
invariant-loop-place l = l.members.items ≡ take l.place l.grant
