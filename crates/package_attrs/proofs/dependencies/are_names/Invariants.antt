use Rattle.std.proofs.Common.{◌≡◌, ◌≤◌, length, List}
use Rattle.der_core.specs.Shapes.{listed}
use Rattle.der_core.proofs.Lists.{with_front}
use Rattle.package_attrs.specs.declared.name.PackageName.{PackageName}
use Rattle.package_attrs.specs.Reading.{name_at}
use Rattle.package_attrs.proofs.dependencies.are_names.Given as goal

-- those so far, which are counted, and those that are still to come
abbrev pub invariant-loop-items : goal.invariant-loop-items
invariant-loop-items l =
    (front : List PackageName) × (length front ≡ l.count)
    × (listed name_at l.contents ≡ with_front front (listed name_at l.items)) × (l.count ≤ 8)

abbrev pub decreases-loop-items : goal.decreases-loop-items
decreases-loop-items l = length l.items
