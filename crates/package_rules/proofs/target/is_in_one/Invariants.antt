use Rattle.std.proofs.Common.{◌≡◌}
use Rattle.std.specs.List.{list_any}
use Rattle.package_rules.specs.Communities.{holds_module}
use Rattle.package_rules.proofs.target.is_in_one.Given as goal

-- one of them holds the module exactly where one of those that are left does
abbrev pub invariant-loop-community : goal.invariant-loop-community
invariant-loop-community l = list_any (holds_module l.hardware) l.communities ≡ list_any (holds_module l.hardware) l.rest
