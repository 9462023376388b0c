use Rattle.std.proofs.Common.{◌≡◌, ◌*◌, ◌≤◌, length, take}
use Rattle.std.specs.List.{flat_map}
use Rattle.package_attrs.specs.Identifier.{name_text}
use Rattle.attribute_write.proofs.information.contents.Given as goal

-- the names so far
abbrev pub invariant-loop-name : goal.invariant-loop-name
invariant-loop-name l = record {
  texts : l.all.items ≡ flat_map name_text (take l.name-index l.names);
  most : length l.all.items ≤ 99 * l.name-index;
}
