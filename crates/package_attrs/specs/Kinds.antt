-- Which stale value goes with which name; RFC 4108, section 2.2.3, leaves it open.
use Rattle.std.specs.Prelude.{Bool, true, false, Option, Some, None}
use Rattle.package_attrs.specs.declared.name.PackageName.{PackageName}
use Rattle.package_attrs.specs.declared.name.PackageName.TheVariants as names
use Rattle.package_attrs.specs.declared.name.Stale.{Stale}
use Rattle.package_attrs.specs.declared.name.Stale.TheVariants as stales

-- a preferred name goes with a number, a legacy name with octets, and each with none
abbrev pub kinds_match : PackageName → Option Stale → Bool
kinds_match name None = true
kinds_match (names.Preferred id version) (Some (stales.Upto n)) = true
kinds_match (names.Preferred id version) (Some (stales.Legacy octets)) = false
kinds_match (names.Legacy octets) (Some (stales.Upto n)) = false
kinds_match (names.Legacy octets) (Some (stales.Legacy octets')) = true
