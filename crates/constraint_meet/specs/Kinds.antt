-- The types at which more than the value itself is covered.
use Rattle.std.specs.Prelude.{ℕ, Bool, ◌&&◌, not, List, bytes_eq}
use Rattle.package_attrs.specs.AttributeTypes.{firmware_package_id, target_hardware_ids}

-- equality alone decides at this type
abbrev pub is_by_octets : List ℕ → Bool
is_by_octets kind = not (bytes_eq kind firmware_package_id) && not (bytes_eq kind target_hardware_ids)
