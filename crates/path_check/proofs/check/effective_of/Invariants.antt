use Rattle.std.proofs.Common.{◌≡◌, map, take}
use Rattle.constraint_meet.specs.Grants.{of_path}
use Rattle.path_check.proofs.check.effective_of.Given as goal

-- the anchor's constraints, and those of the members so far
abbrev pub invariant-loop-member : goal.invariant-loop-member
invariant-loop-member l =
    l.grant ≡ of_path (take l.member-index (map (λ m. m.extensions.constraints) l.members)) l.anchor.constraints
