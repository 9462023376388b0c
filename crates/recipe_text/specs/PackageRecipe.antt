-- The package recipe: what a firmware package is to say, line by line; this project's own.
use Rattle.std.specs.Prelude.{◌≡◌, ◌⊎◌, ℕ, ◌≤◌, List, [], ◌∷◌, length, Some, codes, IsTrue, if◌then◌else◌}
use Rattle.std.specs.Option.{option_to_list}
use Rattle.std.specs.List.{AllByRecursion, flat_map}
use Rattle.attribute_write.specs.declared.communities.NamedCommunity.{NamedCommunity}
use Rattle.attribute_write.specs.declared.communities.NamedCommunity.TheVariants as community_kinds
use Rattle.package_attrs.specs.Kinds.{kinds_match}
use Rattle.package_attrs.specs.declared.community.SerialEntry.{SerialEntry}
use Rattle.package_attrs.specs.declared.community.SerialEntry.TheVariants.{All, Single, Block}
use Rattle.package_attrs.specs.declared.name.PackageName.{PackageName}
use Rattle.package_attrs.specs.declared.name.PackageName.TheVariants as package_names
use Rattle.package_attrs.specs.declared.name.Stale.{Stale}
use Rattle.package_attrs.specs.declared.name.Stale.TheVariants as stale_values
use Rattle.packager.specs.PackagePlan.{PlannedPackage}
use Rattle.recipe_text.specs.Lines.{spaced, IsHex, Rules, Recipe, FirstBad}
use Rattle.recipe_text.specs.Words.{IsNumber, IsOidWord, IsHex64, IsPair, IsCertificateWord}

-- ---- lines

-- What a line says.
pub data PackageEntry : Type 0 where
  -- the package's name
  Named : PackageName → PackageEntry
  -- which packages of that name it makes stale
  MakesStale : Stale → PackageEntry
  -- a hardware type that it is for
  Target : List ℕ → PackageEntry
  -- a community that it is for
  For : NamedCommunity → PackageEntry
  -- its type
  Kind : ℕ → PackageEntry
  -- a package that it needs
  Needs : PackageName → PackageEntry
  -- a certificate, a whole element
  Certificate : List ℕ → PackageEntry
  -- the signer's key identifier
  Signer : List ℕ → PackageEntry
  -- that the image stands in an OCTET STRING
  Wrap : PackageEntry
  Image : List ℕ → PackageEntry

-- the word that a line begins with
abbrev pub package_name : PackageEntry → List ℕ
package_name (Named (package_names.Preferred id version)) = codes "package"
package_name (Named (package_names.Legacy octets)) = codes "legacy"
package_name (MakesStale (stale_values.Upto n)) = codes "stale"
package_name (MakesStale (stale_values.Legacy octets)) = codes "legacystale"
package_name (Target id) = codes "target"
package_name (For (community_kinds.Group id)) = codes "community"
package_name (For (community_kinds.Modules hw_type serial)) = codes "module"
package_name (Kind n) = codes "type"
package_name (Needs (package_names.Preferred id version)) = codes "depends"
package_name (Needs (package_names.Legacy octets)) = codes "dependslegacy"
package_name (Certificate octets) = codes "certificate"
package_name (Signer id) = codes "signer"
package_name Wrap = codes "wrap"
package_name (Image octets) = codes "image"

-- `OID N` of a preferred name, HEX of a legacy one
abbrev pub IsNameText : List ℕ → PackageName → Type 0
IsNameText text (package_names.Preferred id version) = IsPair IsOidWord IsNumber text (id, version)
IsNameText text (package_names.Legacy octets) = IsHex64 text octets

-- N, or HEX
abbrev pub IsStaleText : List ℕ → Stale → Type 0
IsStaleText text (stale_values.Upto n) = IsNumber text n
IsStaleText text (stale_values.Legacy octets) = IsHex64 text octets

-- `all`, `single HEX` or `block HEX HEX`
abbrev pub IsSerialText : List ℕ → SerialEntry → Type 0
IsSerialText text All = text ≡ codes "all"
IsSerialText text (Single serial) = (hex : List ℕ) × IsHex64 hex serial × (text ≡ spaced (codes "single" ∷ hex ∷ []))
IsSerialText text (Block low high) =
    (ends : List ℕ) × IsPair IsHex64 IsHex64 ends (low, high) × (text ≡ spaced (codes "block" ∷ ends ∷ []))

-- OID of a community, and OID of a hardware type with its serial numbers
abbrev pub IsCommunityText : List ℕ → NamedCommunity → Type 0
IsCommunityText text (community_kinds.Group id) = IsOidWord text id
IsCommunityText text (community_kinds.Modules hw_type serial) = IsPair IsOidWord IsSerialText text (hw_type, serial)

-- HEX of an image, 1 to 16,777,216 octets
pub record IsImageWord (word octets : List ℕ) : Type 0 where
  pub hex : IsHex word octets
  pub most : length octets ≤ 16777216

-- what stands behind that word and a space; behind `wrap` stands nothing
abbrev pub IsPackageValue : List ℕ → PackageEntry → Type 0
IsPackageValue text (Named name) = IsNameText text name
IsPackageValue text (MakesStale stale) = IsStaleText text stale
IsPackageValue text (Target id) = IsOidWord text id
IsPackageValue text (For community) = IsCommunityText text community
IsPackageValue text (Kind n) = IsNumber text n
IsPackageValue text (Needs name) = IsNameText text name
IsPackageValue text (Certificate octets) = IsCertificateWord text octets
IsPackageValue text (Signer id) = IsHex64 text id
IsPackageValue text Wrap = ⊥
IsPackageValue text (Image octets) = IsImageWord text octets

-- the word, a space, and what stands behind them
abbrev pub IsWorded : List ℕ → PackageEntry → Type 0
IsWorded line e = (text : List ℕ) × IsPackageValue text e × (line ≡ spaced (package_name e ∷ text ∷ []))

-- the line says this
abbrev pub IsPackageLine : List ℕ → PackageEntry → Type 0
IsPackageLine line e = ((e ≡ Wrap) × (line ≡ package_name Wrap)) ⊎ IsWorded line e

-- ---- entries

-- What lines say of each kind, in their order.
pub record PackageParts : Type 0 where
  pub names : List PackageName
  pub stales : List Stale
  pub targets : List (List ℕ)
  pub communities : List NamedCommunity
  pub kinds : List ℕ
  pub dependencies : List PackageName
  pub certificates : List (List ℕ)
  pub signers : List (List ℕ)
  pub wraps : List (Unit {0})
  pub images : List (List ℕ)

abbrev pub no_parts : PackageParts
no_parts = record {
  names = [];
  stales = [];
  targets = [];
  communities = [];
  kinds = [];
  dependencies = [];
  certificates = [];
  signers = [];
  wraps = [];
  images = [];
}

-- what one line says
abbrev pub package_part : PackageEntry → PackageParts
package_part (Named name) = record no_parts { names = name ∷ [] }
package_part (MakesStale stale) = record no_parts { stales = stale ∷ [] }
package_part (Target id) = record no_parts { targets = id ∷ [] }
package_part (For community) = record no_parts { communities = community ∷ [] }
package_part (Kind n) = record no_parts { kinds = n ∷ [] }
package_part (Needs name) = record no_parts { dependencies = name ∷ [] }
package_part (Certificate octets) = record no_parts { certificates = octets ∷ [] }
package_part (Signer id) = record no_parts { signers = id ∷ [] }
package_part Wrap = record no_parts { wraps = tt ∷ [] }
package_part (Image octets) = record no_parts { images = octets ∷ [] }

-- what all lines say
abbrev pub package_parts : List PackageEntry → PackageParts
package_parts entries = record {
  names = flat_map (λ e. (package_part e).names) entries;
  stales = flat_map (λ e. (package_part e).stales) entries;
  targets = flat_map (λ e. (package_part e).targets) entries;
  communities = flat_map (λ e. (package_part e).communities) entries;
  kinds = flat_map (λ e. (package_part e).kinds) entries;
  dependencies = flat_map (λ e. (package_part e).dependencies) entries;
  certificates = flat_map (λ e. (package_part e).certificates) entries;
  signers = flat_map (λ e. (package_part e).signers) entries;
  wraps = flat_map (λ e. (package_part e).wraps) entries;
  images = flat_map (λ e. (package_part e).images) entries;
}

-- `stale` goes with `package`, and `legacystale` with `legacy`
abbrev pub AreAlike : List PackageName → List Stale → Type 0
AreAlike names stales = AllByRecursion (λ n. AllByRecursion (λ s. IsTrue (kinds_match n (Some s))) stales) names

-- these may stand together
pub record IsPackageFit (p : PackageParts) : Type 0 where
  pub names : length p.names ≤ 1
  pub stales : length p.stales ≤ 1
  pub alike : AreAlike p.names p.stales
  pub targets : length p.targets ≤ 64
  pub communities : length p.communities ≤ 64
  pub kinds : length p.kinds ≤ 1
  pub dependencies : length p.dependencies ≤ 8
  pub certificates : length p.certificates ≤ 8
  pub signers : length p.signers ≤ 1
  pub wraps : length p.wraps ≤ 1
  pub images : length p.images ≤ 1

-- these stand
pub record IsPackageWhole (p : PackageParts) : Type 0 where
  pub name : length p.names ≡ 1
  pub targets : 1 ≤ length p.targets
  pub signer : length p.signers ≡ 1
  pub image : length p.images ≡ 1

-- ---- recipes

-- the rules of a package recipe
abbrev pub package_rules : Rules PackageEntry
package_rules = record {
  says = IsPackageLine;
  fit = λ entries. IsPackageFit (package_parts entries);
  whole = λ entries. IsPackageWhole (package_parts entries);
}

-- what lines say of a package that is to say this
abbrev pub plan_parts : PlannedPackage → PackageParts
plan_parts p = record {
  names = p.identifier.name ∷ [];
  stales = option_to_list p.identifier.stale;
  targets = p.targets;
  communities = p.communities;
  kinds = option_to_list p.kind;
  dependencies = p.dependencies;
  certificates = p.certificates;
  signers = p.signer ∷ [];
  wraps = if p.wrap then tt ∷ [] else [];
  images = p.image ∷ [];
}

-- the text is a recipe of a package that is to say this
abbrev pub PackageRecipe : List ℕ → PlannedPackage → Type 0
PackageRecipe text plan =
    (entries : List PackageEntry) × Recipe package_rules text entries × (package_parts entries ≡ plan_parts plan)

-- the text is no package recipe, and its first bad line is line n, counted from 1
abbrev pub FirstBadPackageLine : List ℕ → ℕ → Type 0
FirstBadPackageLine text n = FirstBad package_rules text n
