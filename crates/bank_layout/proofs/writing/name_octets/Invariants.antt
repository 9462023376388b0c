use Rattle.std.proofs.Common.{◌≡◌, take}
use Rattle.std.specs.List.{flat_map}
use Rattle.package_attrs.specs.Identifier.{name_text}
use Rattle.bank_layout.proofs.writing.name_octets.Given as goal

-- the names so far
abbrev pub invariant-loop-name : goal.invariant-loop-name
invariant-loop-name l = l.octets.items ≡ flat_map name_text (take l.name-index l.names)
