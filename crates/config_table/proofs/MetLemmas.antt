-- Whether a need is met once a package is installed.
use Rattle.std.proofs.Common.{◌≡◌, ℕ, Bool, true, false, ◌↔◌, List, Some, IsTrue, refl, sym, ap, ◌∙◌, if◌then◌else◌}
use Rattle.std.specs.List.{IsDistinct, list_any, find}
use Rattle.std.specs.Option.{option_map_or}
use Rattle.std.specs.Bool.{MatchBool}
use Rattle.package_attrs.specs.declared.name.PackageName.{PackageName}
use Rattle.config_table.specs.Names.{is_same, is_at_least}
use Rattle.config_table.specs.State.{Entry, State, Offer, entry_for, names_of, with_package}
use Rattle.config_table.specs.Rules.{IsMet, IsDistinctState}
use Rattle.config_table.proofs.PutLemmas.{find_placed}
use Rattle.config_table.proofs.StateLemmas.{distinct_with}
use Rattle.config_table.proofs.KeyedLemmas.{list_any-find, at_least-same}

module _ {I : Type 0} where
  decided : (need : PackageName) (packages : List (Entry I)) → IsDistinct is_same (names_of packages)
      → list_any (λ entry. is_at_least entry.name need) packages
      ≡ option_map_or (λ entry. is_at_least entry.name need) (find (λ entry. is_same need entry.name) packages) false
  decided need packages distinct =
      list_any-find (λ entry. entry.name) need (λ entry. is_at_least entry.name need)
      (λ entry. at_least-same entry.name need) packages distinct

  -- a need on the package is met by its new version alone, and any other as before
  pub is_met-with_package : (offer : Offer) (digest : List ℕ) (image : I) (state : State I) → IsDistinctState state
      → (need : PackageName)
      → list_any (λ entry. is_at_least entry.name need) (with_package offer digest image state).packages
      ≡ (if is_same need offer.name then is_at_least offer.name need
      else list_any (λ entry. is_at_least entry.name need) state.packages)
  is_met-with_package offer digest image state distinct need =
      decided need (with_package offer digest image state).packages
      (distinct_with offer digest image state distinct).packages
      ∙ ap (λ o. option_map_or (λ entry. is_at_least entry.name need) o false)
      (find_placed (λ entry. entry.name) need (entry_for offer digest image) state.packages)
      ∙ by (is_same need offer.name)
    where
      by : (b : Bool) → option_map_or (λ entry. is_at_least entry.name need)
          (if b then Some (entry_for offer digest image) else find (λ entry. is_same need entry.name) state.packages)
          false
          ≡ (if b then is_at_least offer.name need else list_any (λ entry. is_at_least entry.name need) state.packages)
      by true = refl
      by false = sym (decided need state.packages distinct.packages)

  -- the same as facts
  pub IsMet-with_package : (offer : Offer) (digest : List ℕ) (image : I) (state : State I) → IsDistinctState state
      → (need : PackageName)
      → IsMet need (with_package offer digest image state).packages
      ↔ MatchBool (is_same need offer.name) (IsTrue (is_at_least offer.name need)) (IsMet need state.packages)
  IsMet-with_package offer digest image state distinct need =
      by (is_same need offer.name) (is_met-with_package offer digest image state distinct need)
    where
      by : {m : Bool} (b : Bool)
          → m ≡ (if b then is_at_least offer.name need
          else list_any (λ entry. is_at_least entry.name need) state.packages)
          → (m ≡ true) ↔ MatchBool b (IsTrue (is_at_least offer.name need)) (IsMet need state.packages)
      by true e = (λ met. sym e ∙ met, λ met. e ∙ met)
      by false e = (λ met. sym e ∙ met, λ met. e ∙ met)
