-- The reading of a package recipe, in the order in which the code reads. Nothing here has to be believed.
use Rattle.std.specs.Prelude.{◌≡◌, ℕ, Bool, true, false, List, [], ◌∷◌, Option, Some, None, if◌then◌else◌, codes, map}
use Rattle.std.specs.Prelude.{option_map, ◌++◌, ◌&&◌, length, nat_lt, is_some, IsTrue}
use Rattle.std.specs.Option.{option_to_list}
use Rattle.attribute_write.specs.declared.communities.NamedCommunity.{NamedCommunity}
use Rattle.attribute_write.specs.declared.communities.NamedCommunity.TheVariants as community_kinds
use Rattle.package_attrs.specs.Kinds.{kinds_match}
use Rattle.package_attrs.specs.declared.community.SerialEntry.{SerialEntry}
use Rattle.package_attrs.specs.declared.community.SerialEntry.TheVariants.{All, Single, Block}
use Rattle.package_attrs.specs.declared.name.PackageName.{PackageName}
use Rattle.package_attrs.specs.declared.name.PackageName.TheVariants as package_names
use Rattle.package_attrs.specs.declared.name.Stale.{Stale}
use Rattle.package_attrs.specs.declared.name.Stale.TheVariants as stale_values
use Rattle.recipe_text.specs.declared.package_draft.PackageDraft.{PackageDraft}
use Rattle.recipe_text.specs.declared.package_line.PackageKind.{PackageKind}
use Rattle.recipe_text.specs.declared.package_line.PackageKind.TheVariants as kinds
use Rattle.recipe_text.specs.PackageRecipe.{PackageEntry, PackageParts, IsPackageFit, IsPackageValue, package_part}
use Rattle.recipe_text.specs.PackageRecipe.{IsNameText, IsStaleText, IsCommunityText}
use Rattle.recipe_text.specs.PackageRecipe.PackageEntry.{Named, MakesStale, Target, For, Kind, Needs, Certificate}
use Rattle.recipe_text.specs.PackageRecipe.PackageEntry.{Signer, Wrap, Image}
use Rattle.recipe_text.specs.Reading.{is_word}
use Rattle.recipe_text.specs.Taking.{grown, Takes}
use Rattle.recipe_text.specs.Words.{Exactly, IsHex64, IsPair}

-- ---- kinds of lines

abbrev pub kind_name : PackageKind → List ℕ
kind_name kinds.Package = codes "package"
kind_name kinds.Legacy = codes "legacy"
kind_name kinds.Stale = codes "stale"
kind_name kinds.LegacyStale = codes "legacystale"
kind_name kinds.Target = codes "target"
kind_name kinds.Community = codes "community"
kind_name kinds.Module = codes "module"
kind_name kinds.Type = codes "type"
kind_name kinds.Depends = codes "depends"
kind_name kinds.DependsLegacy = codes "dependslegacy"
kind_name kinds.Certificate = codes "certificate"
kind_name kinds.Signer = codes "signer"
kind_name kinds.Wrap = codes "wrap"
kind_name kinds.Image = codes "image"

-- the kind of the line that begins with this word and a space
unfoldable pub kind_named : List ℕ → Option PackageKind
kind_named name =
    if is_word name (codes "package") then Some kinds.Package
    else if is_word name (codes "legacy") then Some kinds.Legacy
    else if is_word name (codes "stale") then Some kinds.Stale
    else if is_word name (codes "legacystale") then Some kinds.LegacyStale
    else if is_word name (codes "target") then Some kinds.Target
    else if is_word name (codes "community") then Some kinds.Community
    else if is_word name (codes "module") then Some kinds.Module
    else if is_word name (codes "type") then Some kinds.Type
    else if is_word name (codes "depends") then Some kinds.Depends
    else if is_word name (codes "dependslegacy") then Some kinds.DependsLegacy
    else if is_word name (codes "certificate") then Some kinds.Certificate
    else if is_word name (codes "signer") then Some kinds.Signer
    else if is_word name (codes "wrap") then Some kinds.Wrap
    else if is_word name (codes "image") then Some kinds.Image
    else None

abbrev pub kind_of : PackageEntry → PackageKind
kind_of (Named (package_names.Preferred id version)) = kinds.Package
kind_of (Named (package_names.Legacy octets)) = kinds.Legacy
kind_of (MakesStale (stale_values.Upto n)) = kinds.Stale
kind_of (MakesStale (stale_values.Legacy octets)) = kinds.LegacyStale
kind_of (Target id) = kinds.Target
kind_of (For (community_kinds.Group id)) = kinds.Community
kind_of (For (community_kinds.Modules hw_type serial)) = kinds.Module
kind_of (Kind n) = kinds.Type
kind_of (Needs (package_names.Preferred id version)) = kinds.Depends
kind_of (Needs (package_names.Legacy octets)) = kinds.DependsLegacy
kind_of (Certificate octets) = kinds.Certificate
kind_of (Signer id) = kinds.Signer
kind_of Wrap = kinds.Wrap
kind_of (Image octets) = kinds.Image

-- a line of this kind says this, with this text behind its first word
abbrev pub IsValueOf : PackageKind → List ℕ → PackageEntry → Type 0
IsValueOf kind text e = (kind_of e ≡ kind) × IsPackageValue text e

-- ---- values of one kind

abbrev pub is_preferred : PackageName → Bool
is_preferred (package_names.Preferred id version) = true
is_preferred (package_names.Legacy octets) = false

abbrev pub is_upto : Stale → Bool
is_upto (stale_values.Upto n) = true
is_upto (stale_values.Legacy octets) = false

abbrev pub is_group : NamedCommunity → Bool
is_group (community_kinds.Group id) = true
is_group (community_kinds.Modules hw_type serial) = false

abbrev pub IsNameOf : Bool → List ℕ → PackageName → Type 0
IsNameOf preferred text name = (is_preferred name ≡ preferred) × IsNameText text name

abbrev pub IsStaleOf : Bool → List ℕ → Stale → Type 0
IsStaleOf upto text stale = (is_upto stale ≡ upto) × IsStaleText text stale

abbrev pub IsCommunityOf : Bool → List ℕ → NamedCommunity → Type 0
IsCommunityOf group text community = (is_group community ≡ group) × IsCommunityText text community

-- behind `single` and `block`
abbrev pub IsSingle : List ℕ → SerialEntry → Type 0
IsSingle text All = ⊥
IsSingle text (Single serial) = IsHex64 text serial
IsSingle text (Block low high) = ⊥

abbrev pub IsBlock : List ℕ → SerialEntry → Type 0
IsBlock text All = ⊥
IsBlock text (Single serial) = ⊥
IsBlock text (Block low high) = IsPair IsHex64 IsHex64 text (low, high)

abbrev pub community_named : List ℕ → Option SerialEntry → NamedCommunity
community_named id None = community_kinds.Group id
community_named id (Some serial) = community_kinds.Modules id serial

-- a community that the text says is added where there are fewer than 64
pub record AddsCommunity (group : Bool) (text : List ℕ) (old new : List NamedCommunity) (added : Bool) : Type 0 where
  pub value : Option NamedCommunity
  pub exact : Exactly (IsCommunityOf group text) value
  pub adds : added ≡ (nat_lt (length old) 64 && is_some value)
  pub put : IsTrue added → new ≡ old ++ option_to_list value

-- ---- what is said so far

-- with what one more line says
abbrev pub grow : PackageParts → PackageEntry → PackageParts
grow p e = record {
  names = grown p.names (package_part e).names;
  stales = grown p.stales (package_part e).stales;
  targets = grown p.targets (package_part e).targets;
  communities = grown p.communities (package_part e).communities;
  kinds = grown p.kinds (package_part e).kinds;
  dependencies = grown p.dependencies (package_part e).dependencies;
  certificates = grown p.certificates (package_part e).certificates;
  signers = grown p.signers (package_part e).signers;
  wraps = grown p.wraps (package_part e).wraps;
  images = grown p.images (package_part e).images;
}

-- what a draft keeps
abbrev pub draft_parts : PackageDraft → PackageParts
draft_parts d = record {
  names = option_to_list d.name;
  stales = option_to_list d.stale;
  targets = d.targets.items;
  communities = d.communities.items;
  kinds = option_to_list d.kind;
  dependencies = d.dependencies.items;
  certificates = map (λ o. o.items) d.certificates.items;
  signers = option_to_list d.signer;
  wraps = if d.wrap then tt ∷ [] else [];
  images = option_to_list (option_map (λ o. o.items) d.image);
}

-- the name and the stale value may stand together, where both are there
abbrev pub are_alike : Option PackageName → Option Stale → Bool
are_alike None stale = true
are_alike (Some name) stale = kinds_match name stale

-- the draft takes a line that says such an entry, or refuses it
abbrev pub TakesPackage : (PackageEntry → Type 0) → PackageDraft → PackageDraft → Bool → Type 0
TakesPackage IsSaid old new good = Takes IsSaid IsPackageFit grow (draft_parts old) (draft_parts new) good
