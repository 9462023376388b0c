use Rattle.std.proofs.Common.{◌≡◌, length}
use Rattle.std.specs.List.{list_any}
use Rattle.cert_fields.proofs.extension_list.ExtensionList.has_critical.Given as goal

-- one of all is critical exactly where one of those that are left is
abbrev pub invariant-loop-one : goal.invariant-loop-one
invariant-loop-one l = list_any (λ e. e.critical) l.self ≡ list_any (λ e. e.critical) l.left

abbrev pub decreases-loop-one : goal.decreases-loop-one
decreases-loop-one l = length l.left
