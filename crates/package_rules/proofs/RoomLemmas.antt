-- How many packages and stale entries there are once a package is installed.
use Rattle.std.proofs.Common.{◌≡◌, ◌↔◌, ℕ, suc, ◌<◌, ◌≤◌, nat_lt, nat_le, arith, Bool, true, false, List, length, Option, None, Some, option_map, is_some, is_none, refl, ap, ◌∙◌, if◌then◌else◌}
use Rattle.std.proofs.lemmas.Bool.Decides.{nat_tests}
use Rattle.std.specs.List.{list_any, find}
use Rattle.std.specs.Option.{option_map_or}
use Rattle.config_table.specs.declared.stale_entry.StaleEntry.{StaleEntry}
use Rattle.config_table.specs.Names.{is_same}
use Rattle.config_table.specs.State.{State, Offer, entry_for, greater, last_stale, stale_number, stale_of, raised_by, with_package}
use Rattle.config_table.specs.Rules.{IsInstalled}
use Rattle.config_table.proofs.PutLemmas.{length-put, list_any-is_some}
use Rattle.package_rules.specs.Deciding.{adds_stale_entry}

module _ {I : Type 0} (offer : Offer) (digest : List ℕ) (image : I) (state : State I) where
  packages_after : length (with_package offer digest image state).packages
      ≡ (if list_any (λ entry. is_same offer.name entry.name) state.packages then length state.packages
      else suc (length state.packages))
  packages_after = length-put (λ entry. entry.name) (λ old new. new) (entry_for offer digest image) state.packages

  -- a package that is installed already adds none
  pub packages_if_installed : IsInstalled offer.name state.packages
      → length (with_package offer digest image state).packages ≡ length state.packages
  packages_if_installed there =
      packages_after ∙ ap (λ b. if b then length state.packages else suc (length state.packages)) there

  -- any other adds one
  pub packages_if_new : (IsInstalled offer.name state.packages → ⊥)
      → length (with_package offer digest image state).packages ≡ suc (length state.packages)
  packages_if_new absent =
      packages_after
      ∙ by (list_any (λ entry. is_same offer.name entry.name) state.packages) absent
    where
      by : (b : Bool) → (b ≡ true → ⊥)
          → (if b then length state.packages else suc (length state.packages)) ≡ suc (length state.packages)
      by true absent = absurd (absent refl)
      by false absent = refl

  -- the stale entries afterwards
  pub stale_after : length (with_package offer digest image state).stale
      ≡ (if adds_stale_entry offer state then suc (length state.stale) else length state.stale)
  stale_after = by offer.makes_stale
    where
      seen : (new : StaleEntry) (o : Option StaleEntry)
          → find (λ entry. is_same (last_stale new) (last_stale entry)) state.stale ≡ o
          → (if is_some o then length state.stale else suc (length state.stale))
          ≡ (if is_none (option_map stale_number o) then suc (length state.stale) else length state.stale)
      seen new None is = refl
      seen new (Some entry) is = refl

      by : (makes : Option StaleEntry) → length (raised_by makes state.stale)
          ≡ (if option_map_or (λ made. is_none (stale_of (last_stale made) state)) makes false
          then suc (length state.stale) else length state.stale)
      by None = refl
      by (Some new) =
          length-put last_stale greater new state.stale
          ∙ ap (λ b. if b then length state.stale else suc (length state.stale))
          (list_any-is_some (λ entry. is_same (last_stale new) (last_stale entry)) state.stale)
          ∙ seen new (find (λ entry. is_same (last_stale new) (last_stale entry)) state.stale) refl

-- as many afterwards as before are up to so many
pub same_room : (count before after most : ℕ) → count ≡ before → after ≡ before
    → (nat_le count most ≡ true) ↔ (after ≤ most)
same_room count before after most is same = (
  λ fits. let low : count ≤ most = grind (arith, nat_tests) in omega arith,
  λ fits. let low : count ≤ most = omega arith in grind (arith, nat_tests),
)

-- one more afterwards is up to so many where there were fewer before
pub one_more_room : (count before after most : ℕ) → count ≡ before → after ≡ suc before
    → (nat_lt count most ≡ true) ↔ (after ≤ most)
one_more_room count before after most is more = (
  λ fits. let low : count < most = grind (arith, nat_tests) in omega arith,
  λ fits. let low : count < most = omega arith in grind (arith, nat_tests),
)
