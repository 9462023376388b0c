use Rattle.std.proofs.Common.{◌≡◌, ◌*◌, ◌≤◌, length, take}
use Rattle.package_attrs.specs.Targets.{targets_contents}
use Rattle.attribute_write.proofs.targets.contents.Given as goal

-- the hardware types so far
abbrev pub invariant-loop-hw_type : goal.invariant-loop-hw_type
invariant-loop-hw_type l = record {
  texts : l.all.items ≡ targets_contents (take l.hw_type-index l.hw_types);
  most : length l.all.items ≤ 70 * l.hw_type-index;
}
