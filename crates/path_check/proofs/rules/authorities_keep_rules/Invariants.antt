use Rattle.std.proofs.Common.{◌≡◌, map}
use Rattle.path_check.specs.PathRules.{counted}
use Rattle.path_check.specs.Members.{member_view}
use Rattle.path_check.proofs.RuleLemmas.{KeptBefore}
use Rattle.path_check.proofs.rules.authorities_keep_rules.Given as goal

-- those so far keep the rules, and so many of them count
abbrev pub invariant-loop-member : goal.invariant-loop-member
invariant-loop-member l =
    (l.below ≡ counted l.member-index (map member_view l.above)) × KeptBefore (map member_view l.above) l.member-index
