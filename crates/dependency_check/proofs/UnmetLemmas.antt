-- Which rule of dependencies fails, by the first dependency that isn't met.
use Rattle.std.proofs.Common.{◌↔◌, List, Option, None, Some, IsNone, IfSome, IsSomeAnd, refl}
use Rattle.package_attrs.specs.declared.name.PackageName.{PackageName}
use Rattle.config_table.specs.State.{Entry}
use Rattle.config_table.specs.Rules.{IsInstalled, IsMet}
use Rattle.dependency_check.specs.declared.fault.Unmet.{Unmet}
use Rattle.dependency_check.specs.declared.fault.Unmet.TheVariants.{Missing, TooOld}
use Rattle.dependency_check.specs.Dependencies.{AllInstalled, AllMet, IsFirstUnmet, IsMissing, IsTooOld}
use Rattle.dependency_check.proofs.PlaceLemmas.{not_all}

module _ {I : Type 0} (needs : List PackageName) (packages : List (Entry I)) where
  -- one is missing where not all are installed
  pub missing_exact : (unmet : Option Unmet) → (IsNone unmet ↔ (AllInstalled needs packages × AllMet needs packages))
      → IfSome unmet (IsFirstUnmet needs packages) → IsSomeAnd unmet IsMissing ↔ (AllInstalled needs packages → ⊥)
  missing_exact None met first = (λ none. absurd none, λ fails. fails (met.0 refl).0)
  missing_exact (Some (Missing place)) met first =
      (λ missing. not_all (λ need. IsInstalled need packages) needs place first, λ fails. tt)
  missing_exact (Some (TooOld place)) met first = (λ missing. absurd missing, λ fails. fails first.0)

  -- one is too old where all are installed and not all are met
  pub too_old_exact : (unmet : Option Unmet) → (IsNone unmet ↔ (AllInstalled needs packages × AllMet needs packages))
      → IfSome unmet (IsFirstUnmet needs packages)
      → IsSomeAnd unmet IsTooOld ↔ (AllInstalled needs packages × (AllMet needs packages → ⊥))
  too_old_exact None met first = (λ none. absurd none, λ fails. fails.1 (met.0 refl).1)
  too_old_exact (Some (Missing place)) met first = (
    λ old. absurd old,
    λ fails. not_all (λ need. IsInstalled need packages) needs place first fails.0,
  )
  too_old_exact (Some (TooOld place)) met first =
      (λ old. (first.0, not_all (λ need. IsMet need packages) needs place first.1), λ fails. tt)
