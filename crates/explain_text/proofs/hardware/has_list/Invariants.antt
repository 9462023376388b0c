use Rattle.std.proofs.Common.{◌≡◌, drop}
use Rattle.std.specs.Prelude.{is_some}
use Rattle.std.specs.List.{list_any}
use Rattle.package_attrs.specs.ListReading.{targets_of}
use Rattle.explain_text.specs.Ordered.{lent}
use Rattle.explain_text.proofs.hardware.has_list.Given as goal

-- one of all is a list exactly where one of those that are left is
abbrev pub invariant-loop-value : goal.invariant-loop-value
invariant-loop-value l =
    list_any (λ one. is_some (targets_of one)) (lent l.values)
    ≡ list_any (λ one. is_some (targets_of one)) (lent (drop l.value-index l.values))
