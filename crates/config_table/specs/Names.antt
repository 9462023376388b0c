-- Two package names beside one another (RFC 4108, section 2.2.3).
use Rattle.std.specs.Prelude.{Bool, false, ◌&&◌, nat_le, bytes_eq}
use Rattle.package_attrs.specs.declared.name.PackageName.{PackageName}
use Rattle.package_attrs.specs.declared.name.PackageName.TheVariants as names

-- the same package: the same identifier in whatever version, or the same legacy name
abbrev pub is_same : PackageName → PackageName → Bool
is_same (names.Preferred id version) (names.Preferred id' version') = bytes_eq id id'
is_same (names.Preferred id version) (names.Legacy octets) = false
is_same (names.Legacy octets) (names.Preferred id version) = false
is_same (names.Legacy octets) (names.Legacy octets') = bytes_eq octets octets'

-- the first has the second's identifier and at least its version, or is that very legacy name
abbrev pub is_at_least : PackageName → PackageName → Bool
is_at_least (names.Preferred id version) (names.Preferred id' version') = bytes_eq id id' && nat_le version' version
is_at_least (names.Preferred id version) (names.Legacy octets) = false
is_at_least (names.Legacy octets) (names.Preferred id version) = false
is_at_least (names.Legacy octets) (names.Legacy octets') = bytes_eq octets octets'
