-- Which value of an attribute a listed one covers, where the two needn't be equal. What an authority may list is
-- RFC 6010's (section 3.3); that a listed identifier stands for later versions too, and listed hardware types for each
-- of them, is this project's own.
use Rattle.std.specs.Prelude.{◌≡◌, ◌⊎◌, ℕ, ◌≤◌, Bool, false, List, Option, Some, None, ◌&&◌, ◌||◌, nat_le, bytes_eq}
use Rattle.std.specs.List.{AllByRecursion, Contains, list_all, list_any}
use Rattle.der_core.specs.Reading.{◌>>?◌}
use Rattle.package_attrs.specs.declared.name.PackageName.{PackageName}
use Rattle.package_attrs.specs.declared.name.PackageName.TheVariants as names
use Rattle.package_attrs.specs.declared.name.Stale.{Stale}
use Rattle.package_attrs.specs.Identifier.{identifier_text, IsIdentifier}
use Rattle.package_attrs.specs.ListReading.{targets_of}
use Rattle.package_attrs.specs.Reading.{identifier_of}
use Rattle.package_attrs.specs.Targets.{targets_text, AreTargets}

-- ---- package identifiers (RFC 4108, section 2.2.3)

-- the octets are an identifier with this preferred name, and with any stale part or none
abbrev pub IsPreferred : List ℕ → List ℕ → ℕ → Type 0
IsPreferred octets id version = (stale : Option Stale)
    × IsIdentifier (record { name = names.Preferred id version; stale = stale })
    × (octets ≡ identifier_text (record { name = names.Preferred id version; stale = stale }))

-- both have preferred names of one package, and the value's version is the listed one or greater
pub record CoversVersion (listed value : List ℕ) : Type 0 where
  pub id : List ℕ
  pub least : ℕ
  pub version : ℕ
  pub lists : IsPreferred listed id least
  pub has : IsPreferred value id version
  pub late : least ≤ version

-- a listed identifier covers itself, and with a preferred name each later version
abbrev pub IdentifierCovers : List ℕ → List ℕ → Type 0
IdentifierCovers listed value = (listed ≡ value) ⊎ CoversVersion listed value

-- ---- hardware types (RFC 4108, section 2.2.4)

-- both are lists of hardware types, and each of the value's is among the listed ones
pub record CoversEach (listed value : List ℕ) : Type 0 where
  pub these : List (List ℕ)
  pub those : List (List ℕ)
  pub lists : AreTargets these × (listed ≡ targets_text these)
  pub has : AreTargets those × (value ≡ targets_text those)
  pub each : AllByRecursion (Contains these) those

-- a listed value covers itself, and each value of no other hardware types
abbrev pub TargetsCover : List ℕ → List ℕ → Type 0
TargetsCover listed value = (listed ≡ value) ⊎ CoversEach listed value

-- ---- the tests that tell it; that they do is the law `covers_are_told`

-- the identifier and the version of a preferred name
abbrev pub preferred : PackageName → Option (List ℕ × ℕ)
preferred (names.Preferred id version) = Some (id, version)
preferred (names.Legacy octets) = None

-- the preferred name, where the octets are an identifier with one
unfoldable pub preferred_of : List ℕ → Option (List ℕ × ℕ)
preferred_of octets = identifier_of octets >>? λ i. preferred i.name

-- the same identifier, and at least this version
abbrev pub is_late : Option (List ℕ × ℕ) → Option (List ℕ × ℕ) → Bool
is_late (Some least) (Some name) = bytes_eq least.0 name.0 && nat_le least.1 name.1
is_late (Some least) None = false
is_late None name = false

abbrev pub identifier_covers : List ℕ → List ℕ → Bool
identifier_covers listed value = bytes_eq listed value || is_late (preferred_of listed) (preferred_of value)

-- each of those is among these
abbrev pub are_among : Option (List (List ℕ)) → Option (List (List ℕ)) → Bool
are_among (Some these) (Some those) = list_all (λ target. list_any (λ one. bytes_eq one target) these) those
are_among (Some these) None = false
are_among None those = false

abbrev pub targets_cover : List ℕ → List ℕ → Bool
targets_cover listed value = bytes_eq listed value || are_among (targets_of listed) (targets_of value)
