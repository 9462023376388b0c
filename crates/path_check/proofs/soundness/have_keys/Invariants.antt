use Rattle.std.proofs.Common.{map, take}
use Rattle.std.specs.List.{AllByRecursion}
use Rattle.path_check.specs.Conditions.{HasKey}
use Rattle.path_check.specs.Members.{member_view}
use Rattle.path_check.proofs.soundness.have_keys.Given as goal

-- it holds of those so far
abbrev pub invariant-loop-member : goal.invariant-loop-member
invariant-loop-member l = AllByRecursion (HasKey) (take l.member-index (map member_view l.members))
