-- The rules of stale packages and of dependencies, over the lists of a state (RFC 4108, sections 2.2.3 and 2.2.9).
-- RFC 4108 leaves open how versions compare; that a number makes all versions up to it stale, that a need is met by a
-- greater version too, and that legacy names are compared whole are this project's own rules.
use Rattle.std.specs.Prelude.{List, Bool, IsTrue}
use Rattle.std.specs.List.{list_any, IsDistinct}
use Rattle.package_attrs.specs.declared.name.PackageName.{PackageName}
use Rattle.config_table.specs.declared.stale_entry.StaleEntry.{StaleEntry}
use Rattle.config_table.specs.Names.{is_same, is_at_least}
use Rattle.config_table.specs.State.{Entry, State, last_stale, names_of, stale_names_of}

-- a preferred name is stale where its identifier's number is its version or greater, a legacy name where it is there
abbrev pub IsStale : PackageName → List StaleEntry → Type 0
IsStale name stale = IsTrue (list_any (λ entry. is_at_least (last_stale entry) name) stale)

-- a package of the name's identifier, in whatever version, or of its legacy name is there
abbrev pub is_installed : {I : Type 0} → PackageName → List (Entry I) → Bool
is_installed name packages = list_any (λ entry. is_same name entry.name) packages

abbrev pub IsInstalled : {I : Type 0} → PackageName → List (Entry I) → Type 0
IsInstalled name packages = IsTrue (is_installed name packages)

-- a package of the name's identifier and at least its version, or of that very legacy name, is there
abbrev pub is_met : {I : Type 0} → PackageName → List (Entry I) → Bool
is_met need packages = list_any (λ entry. is_at_least entry.name need) packages

abbrev pub IsMet : {I : Type 0} → PackageName → List (Entry I) → Type 0
IsMet need packages = IsTrue (is_met need packages)

-- no identifier and no legacy name stands twice in a list
pub record IsDistinctState {I : Type 0} (state : State I) : Type 0 where
  pub packages : IsDistinct is_same (names_of state.packages)
  pub stale : IsDistinct is_same (stale_names_of state.stale)
