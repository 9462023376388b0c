-- FirmwarePackageIdentifier: its values and their texts (RFC 4108, section 2.2.3).
--
--   FirmwarePackageIdentifier ::= SEQUENCE {
--     name PreferredOrLegacyPackageIdentifier,
--     stale PreferredOrLegacyStalePackageIdentifier OPTIONAL }
--
--   PreferredOrLegacyPackageIdentifier ::= CHOICE {
--     preferred PreferredPackageIdentifier,
--     legacy OCTET STRING }
--
--   PreferredPackageIdentifier ::= SEQUENCE {
--     fwPkgID OBJECT IDENTIFIER,
--     verNum INTEGER (0..MAX) }
--
--   PreferredOrLegacyStalePackageIdentifier ::= CHOICE {
--     preferredStaleVerNum INTEGER (0..MAX),
--     legacyStaleVersion OCTET STRING }
--
-- Here MAX is 2 ^ 128 - 1, and an OCTET STRING has 1 to 64 octets.
use Rattle.std.specs.Prelude.{ℕ, ◌<◌, ◌≤◌, ◌^◌, List, ◌++◌, length, Option, IsTrue, IfSome}
use Rattle.der_core.specs.Element.{enc}
use Rattle.der_core.specs.Number.{number_contents}
use Rattle.der_core.specs.Objects.{IsOid}
use Rattle.der_core.specs.Shapes.{text_if}
use Rattle.package_attrs.specs.declared.name.PackageName.{PackageName}
use Rattle.package_attrs.specs.declared.name.PackageName.TheVariants as names
use Rattle.package_attrs.specs.declared.name.Stale.{Stale}
use Rattle.package_attrs.specs.declared.name.Stale.TheVariants as stales
use Rattle.package_attrs.specs.declared.identifier.Identifier.{Identifier}
use Rattle.package_attrs.specs.Kinds.{kinds_match}

-- PreferredOrLegacyPackageIdentifier: the SEQUENCE of a preferred name, or a legacy name's octets
abbrev pub name_text : PackageName → List ℕ
name_text (names.Preferred id version) = enc 0x30 (enc 0x06 id ++ enc 0x02 (number_contents version))
name_text (names.Legacy octets) = enc 0x04 octets

-- PreferredOrLegacyStalePackageIdentifier: a number, or octets
abbrev pub stale_text : Stale → List ℕ
stale_text (stales.Upto n) = enc 0x02 (number_contents n)
stale_text (stales.Legacy octets) = enc 0x04 octets

-- a name and a stale value, of any kinds
pub record Named : Type 0 where
  pub name : PackageName
  pub stale : Option Stale

-- what an identifier says
abbrev pub view : Identifier → Named
view i = record { name = i.name; stale = i.stale }

-- FirmwarePackageIdentifier: the SEQUENCE of the name and, where there is one, the stale value
abbrev pub identifier_text : Named → List ℕ
identifier_text i = enc 0x30 (name_text i.name ++ text_if stale_text i.stale)

-- 1 to 64 octets, as a legacy value has, and a serial number
abbrev pub HasOneTo64 : List ℕ → Type 0
HasOneTo64 octets = (0 < length octets) × (length octets ≤ 64)

-- a name that has a text
abbrev pub IsName : PackageName → Type 0
IsName (names.Preferred id version) = IsOid id × (version < 2 ^ 128)
IsName (names.Legacy octets) = HasOneTo64 octets

-- a stale value that has a text
abbrev pub IsStale : Stale → Type 0
IsStale (stales.Upto n) = n < 2 ^ 128
IsStale (stales.Legacy octets) = HasOneTo64 octets

-- an identifier that has a text
pub record IsIdentifier (i : Named) : Type 0 where
  pub name : IsName i.name
  pub stale : IfSome i.stale IsStale
  pub alike : IsTrue (kinds_match i.name i.stale)
