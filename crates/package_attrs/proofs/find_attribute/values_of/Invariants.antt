use Rattle.std.proofs.Common.{◌≡◌, length}
use Rattle.package_attrs.specs.PackageReading.{values_of}
use Rattle.package_attrs.proofs.find_attribute.values_of.Given as goal

-- the first of the type is the first among those that are left
abbrev pub invariant-loop-attr : goal.invariant-loop-attr
invariant-loop-attr l = values_of l.kind l.attrs ≡ values_of l.kind l.left

abbrev pub decreases-loop-attr : goal.decreases-loop-attr
decreases-loop-attr l = length l.left
