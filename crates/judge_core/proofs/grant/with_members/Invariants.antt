use Rattle.std.proofs.Common.{take}
use Rattle.path_check.specs.Conditions.{members_at}
use Rattle.judge_core.proofs.GrantLemmas.{IsMade}
use Rattle.judge_core.proofs.grant.with_members.Given as goal

-- the grant with the certificates so far
abbrev pub invariant-loop-place : goal.invariant-loop-place
invariant-loop-place l = IsMade (members_at l.certs (take l.place-index l.places)) l.fn.above l.grant
