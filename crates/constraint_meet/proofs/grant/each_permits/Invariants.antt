use Rattle.std.proofs.Common.{◌≡◌, drop}
use Rattle.std.specs.Prelude.{◌↔◌}
use Rattle.constraint_meet.specs.Grants.{GrantPermits, grant_permits}
use Rattle.constraint_meet.proofs.grant.each_permits.Given as goal

-- all permit exactly where those that are left do
abbrev pub invariant-loop-member : goal.invariant-loop-member
invariant-loop-member l =
    (grant_permits l.content l.attributes l.members ≡ grant_permits l.content l.attributes (drop l.member-index l.members))
    × (GrantPermits l.content l.attributes l.members
    ↔ GrantPermits l.content l.attributes (drop l.member-index l.members))
