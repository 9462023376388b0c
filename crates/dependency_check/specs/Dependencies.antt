-- The rules of dependencies, over the lists of a state (RFC 4108, section 2.2.9).
use Rattle.std.specs.Prelude.{◌≡◌, ℕ, ◌<◌, false, List, Contains, slice_get, Some}
use Rattle.std.specs.List.{AllByRecursion}
use Rattle.package_attrs.specs.declared.name.PackageName.{PackageName}
use Rattle.config_table.specs.Names.{is_same}
use Rattle.config_table.specs.State.{Entry, State}
use Rattle.config_table.specs.Rules.{IsInstalled, IsMet}
use Rattle.dependency_check.specs.declared.fault.Unmet.{Unmet}
use Rattle.dependency_check.specs.declared.fault.Unmet.TheVariants.{Missing, TooOld}

-- each of these names is installed, in whatever version
abbrev pub AllInstalled : {I : Type 0} → List PackageName → List (Entry I) → Type 0
AllInstalled needs packages = AllByRecursion (λ need. IsInstalled need packages) needs

-- each of these needs is met
abbrev pub AllMet : {I : Type 0} → List PackageName → List (Entry I) → Type 0
AllMet needs packages = AllByRecursion (λ need. IsMet need packages) needs

-- P holds of each element before this place, and not of the one there
pub record FailsFirstAt {A : Type 0} (P : A → Type 0) (xs : List A) (place : ℕ) : Type 0 where
  pub element : A
  pub there : slice_get xs place ≡ Some element
  pub fails : P element → ⊥
  pub before : (i : ℕ) (x : A) → i < place → slice_get xs i ≡ Some x → P x

-- the first dependency that isn't installed; or all are, and the first that is installed in too small a version
abbrev pub IsFirstUnmet : {I : Type 0} → List PackageName → List (Entry I) → Unmet → Type 0
IsFirstUnmet needs packages (Missing place) = FailsFirstAt (λ need. IsInstalled need packages) needs place
IsFirstUnmet needs packages (TooOld place) =
    AllInstalled needs packages × FailsFirstAt (λ need. IsMet need packages) needs place

-- what is unmet is a dependency that isn't installed
abbrev pub IsMissing : Unmet → Type 0
IsMissing (Missing place) = Unit {0}
IsMissing (TooOld place) = ⊥

-- what is unmet is a dependency that is installed in too small a version
abbrev pub IsTooOld : Unmet → Type 0
IsTooOld (Missing place) = ⊥
IsTooOld (TooOld place) = Unit {0}

-- where an installed package isn't the one of this name, each of its needs that is met before is met afterwards
abbrev pub KeepsNeeds : {I : Type 0} → PackageName → State I → State I → Entry I → Type 0
KeepsNeeds name before after entry =
    is_same name entry.name ≡ false
    → AllByRecursion (λ need. IsMet need before.packages → IsMet need after.packages) entry.needs

-- of no installed package that the one of this name doesn't replace a need is met before and not afterwards
abbrev pub Unbroken : {I : Type 0} → PackageName → State I → State I → Type 0
Unbroken name before after = AllByRecursion (KeepsNeeds name before after) before.packages

-- the package at this place is the first that isn't replaced and has a need that is met before and not afterwards
pub record IsFirstBroken {I : Type 0} (name : PackageName) (before after : State I) (place : ℕ) : Type 0 where
  pub entry : Entry I
  pub there : slice_get before.packages place ≡ Some entry
  pub stays : is_same name entry.name ≡ false
  pub need : PackageName
  pub needed : Contains entry.needs need
  pub met : IsMet need before.packages
  pub lost : IsMet need after.packages → ⊥
  pub earlier : (i : ℕ) (other : Entry I) → i < place → slice_get before.packages i ≡ Some other
      → KeepsNeeds name before after other
