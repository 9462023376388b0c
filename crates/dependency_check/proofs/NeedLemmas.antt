-- What the installation of a package does to the needs of others.
use Rattle.std.proofs.Common.{◌≡◌, ℕ, ◌<◌, ◌≤◌, nat_lt, Bool, true, false, ◌&&◌, ◌||◌, ◌↔◌, not, List, [], ◌∷◌, map, slice_get, get_or, length, Option, None, Some, Contains, suc, zero, arith, refl, sym, ap, subst, ◌∙◌, true≢false, if◌then◌else◌}
use Rattle.std.proofs.lemmas.Bool.Decides.{nat_tests}
use Rattle.std.proofs.lemmas.Option.{slice_get_past}
use Rattle.std.specs.List.{AllByRecursion, list_any}
use Rattle.std.specs.Option.{option_map_or}
use Rattle.package_attrs.specs.declared.name.PackageName.{PackageName}
use Rattle.config_table.specs.Names.{is_same, is_at_least}
use Rattle.config_table.specs.State.{Entry, State, Offer, entry_with, state_with, with_package}
use Rattle.config_table.specs.Rules.{IsInstalled, is_met, IsMet, IsDistinctState}
use Rattle.config_table.proofs.MetLemmas.{is_met-with_package}
use Rattle.dependency_check.specs.Dependencies.{AllInstalled, AllMet, KeepsNeeds, Unbroken, IsFirstBroken}
use Rattle.dependency_check.specs.Deciding.{is_lost, loses_need}
use Rattle.dependency_check.proofs.PlaceLemmas.{all_at, all_from, all_then, one_passes, none_passes}

-- the parts of a test that passes
both : (a b : Bool) → (a && b) ≡ true → (a ≡ true) × (b ≡ true)
both true b h = (refl, h)
both false b h = absurd (true≢false (sym h))

not_true : (b : Bool) → not b ≡ true → b ≡ false
not_true true h = absurd (true≢false (sym h))
not_true false h = refl

module _ {I : Type 0} (offer : Offer) (digest : List ℕ) (image : I) (before : State I)
    (distinct : IsDistinctState before) where
  -- a need that isn't lost stays met
  stays_met : (need : PackageName) → is_lost offer.name before need ≡ false → IsMet need before.packages
      → IsMet need (with_package offer digest image before).packages
  stays_met need kept met =
      is_met-with_package offer digest image before distinct need
      ∙ by (is_same need offer.name) (is_at_least offer.name need) kept
    where
      by : (b c : Bool) → (b && (not c && is_met need before.packages)) ≡ false
          → (if b then c else list_any (λ entry. is_at_least entry.name need) before.packages) ≡ true
      by true true kept = refl
      by true false kept = absurd (true≢false (sym met ∙ kept))
      by false c kept = met

  -- a need that is lost isn't met afterwards
  not_met : (need : PackageName) → is_lost offer.name before need ≡ true
      → IsMet need (with_package offer digest image before).packages → ⊥
  not_met need lost met =
      let parts = both (is_same need offer.name) (not (is_at_least offer.name need) && is_met need before.packages) lost in
      let older =
      not_true (is_at_least offer.name need)
      (both (not (is_at_least offer.name need)) (is_met need before.packages) parts.1).0 in
      true≢false (sym met ∙ is_met-with_package offer digest image before distinct need
      ∙ ap (λ b. if b then is_at_least offer.name need
      else list_any (λ entry. is_at_least entry.name need) before.packages) parts.0 ∙ older)

  was_met : (need : PackageName) → is_lost offer.name before need ≡ true → IsMet need before.packages
  was_met need lost =
      let parts = both (is_same need offer.name) (not (is_at_least offer.name need) && is_met need before.packages) lost in
      (both (not (is_at_least offer.name need)) (is_met need before.packages) parts.1).1

  -- a package that loses no need keeps its needs
  pub keeps_needs : (entry : Entry I) → loses_need offer.name before entry ≡ false
      → KeepsNeeds offer.name before (with_package offer digest image before) entry
  keeps_needs entry kept other =
      let none : list_any (is_lost offer.name before) entry.needs ≡ false =
      sym (ap (λ b. not b && list_any (is_lost offer.name before) entry.needs) other) ∙ kept in
      all_then (λ need. is_lost offer.name before need ≡ false)
      (λ need. IsMet need before.packages → IsMet need (with_package offer digest image before).packages)
      entry.needs
      stays_met (none_passes (is_lost offer.name before) entry.needs none)

  -- where no package loses a need, nothing is broken
  pub unbroken : ((i : ℕ) → option_map_or (loses_need offer.name before) (slice_get before.packages i) false ≡ false)
      → Unbroken offer.name before (with_package offer digest image before)
  unbroken none =
      all_from (KeepsNeeds offer.name before (with_package offer digest image before)) before.packages
      (λ i entry there. keeps_needs entry
      (sym (ap (λ o. option_map_or (loses_need offer.name before) o false) there) ∙ none i))

  -- the first package that loses a need is the first that is broken
  pub first_broken : (place : ℕ)
      → option_map_or (loses_need offer.name before) (slice_get before.packages place) false ≡ true
      → ((i : ℕ) → i < place → option_map_or (loses_need offer.name before) (slice_get before.packages i) false ≡ false)
      → IsFirstBroken offer.name before (with_package offer digest image before) place
  first_broken place loses none = by (slice_get before.packages place) refl loses
    where
      by : (o : Option (Entry I)) → slice_get before.packages place ≡ o
          → option_map_or (loses_need offer.name before) o false ≡ true
          → IsFirstBroken offer.name before (with_package offer digest image before) place
      by None there loses = absurd (true≢false (sym loses))
      by (Some entry) there loses =
          let parts =
          both (not (is_same offer.name entry.name)) (list_any (is_lost offer.name before) entry.needs) loses in
          let one = one_passes (is_lost offer.name before) entry.needs parts.1 in
          record {
            entry = entry;
            there = there;
            stays = not_true (is_same offer.name entry.name) parts.0;
            need = one.element;
            needed = one.among;
            met = was_met one.element one.passes;
            lost = not_met one.element one.passes;
            earlier =
                λ i other low at. keeps_needs other
                (sym (ap (λ o. option_map_or (loses_need offer.name before) o false) at) ∙ none i low);
          }

-- past the last place there is none
pub none_past : {I : Type 0} (loses : Entry I → Bool) (packages : List (Entry I)) (n : ℕ) → length packages ≤ n
    → ((i : ℕ) → i < n → option_map_or loses (slice_get packages i) false ≡ false)
    → (i : ℕ) → option_map_or loses (slice_get packages i) false ≡ false
none_past loses packages n all none i = by (nat_lt i n) refl
  where
    by : (b : Bool) → nat_lt i n ≡ b → option_map_or loses (slice_get packages i) false ≡ false
    by true low = let is : i < n = grind (arith, nat_tests) in none i is
    by false high =
        let is : n ≤ i = grind (arith, nat_tests) in
        ap (λ o. option_map_or loses o false) (slice_get_past packages i (omega arith))

-- where a package is broken, not all keep their needs
pub broken_one : {I : Type 0} (name : PackageName) (before after : State I) (place : ℕ)
    → IsFirstBroken name before after place → Unbroken name before after → ⊥
broken_one name before after place broken all =
    let keeps =
    all_at (KeepsNeeds name before after) before.packages place broken.entry all broken.there broken.stays in
    broken.lost (need_kept broken.entry.needs broken.need keeps broken.needed broken.met)
  where
    need_kept : (needs : List PackageName) (need : PackageName)
        → AllByRecursion (λ need. IsMet need before.packages → IsMet need after.packages) needs → Contains needs need
        → IsMet need before.packages → IsMet need after.packages
    need_kept [] need keeps among = absurd (omega (arith, among.1))
    need_kept (x ∷ xs) need keeps among =
        by among.0 among.1 among.2 (λ k low is. need_kept xs need keeps.1 (k, low, is))
      where
        by : (k : ℕ) → k < suc (length xs) → get_or (x ∷ xs) k need ≡ need
            → ((k : ℕ) → k < length xs → get_or xs k need ≡ need → IsMet need before.packages
            → IsMet need after.packages) → IsMet need before.packages → IsMet need after.packages
        by zero low is rest = subst (λ n. IsMet n before.packages → IsMet n after.packages) is keeps.0
        by (suc k) low is rest = rest k (omega arith) is

-- what a test sees of the names alone
seen_names : {I J : Type 0} (f : I → J) (test : PackageName → Bool) (packages : List (Entry I))
    → list_any (λ entry. test entry.name) (map (entry_with f) packages) ≡ list_any (λ entry. test entry.name) packages
seen_names f test [] = refl
seen_names f test (entry ∷ packages) = ap (λ b. test entry.name || b) (seen_names f test packages)

module _ {I J : Type 0} (f : I → J) where
  -- the rules don't see what stands for an image
  pub AllInstalled-state_with : (needs : List PackageName) (state : State I)
      → AllInstalled needs (state_with f state).packages ↔ AllInstalled needs state.packages
  AllInstalled-state_with needs state = (
    λ all. all_then (λ need. IsInstalled need (state_with f state).packages)
        (λ need. IsInstalled need state.packages) needs
        (λ need installed. sym (seen_names f (is_same need) state.packages) ∙ installed) all,
    λ all. all_then (λ need. IsInstalled need state.packages)
        (λ need. IsInstalled need (state_with f state).packages) needs
        (λ need installed. seen_names f (is_same need) state.packages ∙ installed) all,
  )

  pub IsMet-state_with : (state : State I) (need : PackageName)
      → IsMet need (state_with f state).packages ↔ IsMet need state.packages
  IsMet-state_with state need = (
    λ met. sym (seen_names f (λ name. is_at_least name need) state.packages) ∙ met,
    λ met. seen_names f (λ name. is_at_least name need) state.packages ∙ met,
  )

  pub AllMet-state_with : (needs : List PackageName) (state : State I)
      → AllMet needs (state_with f state).packages ↔ AllMet needs state.packages
  AllMet-state_with needs state = (
    all_then (λ need. IsMet need (state_with f state).packages) (λ need. IsMet need state.packages) needs
        (λ need. (IsMet-state_with state need).0),
    all_then (λ need. IsMet need state.packages) (λ need. IsMet need (state_with f state).packages) needs
        (λ need. (IsMet-state_with state need).1),
  )

  Stays : State I → State I → PackageName → Type 0
  Stays before after need = IsMet need before.packages → IsMet need after.packages

  Stays-with : State I → State I → PackageName → Type 0
  Stays-with before after need = IsMet need (state_with f before).packages → IsMet need (state_with f after).packages

  pub Unbroken-state_with : (name : PackageName) (before after : State I)
      → Unbroken name (state_with f before) (state_with f after) ↔ Unbroken name before after
  unfolding Stays Stays-with
  Unbroken-state_with name before after = (to before.packages, back before.packages)
    where
      to : (packages : List (Entry I))
          → AllByRecursion (KeepsNeeds name (state_with f before) (state_with f after)) (map (entry_with f) packages)
          → AllByRecursion (KeepsNeeds name before after) packages
      to [] all = tt
      to (entry ∷ packages) all = (
        λ other. all_then (Stays-with before after) (Stays before after) entry.needs
            (λ need kept met. (IsMet-state_with after need).0 (kept ((IsMet-state_with before need).1 met)))
            (all.0 other),
        to packages all.1,
      )

      back : (packages : List (Entry I)) → AllByRecursion (KeepsNeeds name before after) packages
          → AllByRecursion (KeepsNeeds name (state_with f before) (state_with f after)) (map (entry_with f) packages)
      back [] all = tt
      back (entry ∷ packages) all = (
        λ other. all_then (Stays before after) (Stays-with before after) entry.needs
            (λ need kept met. (IsMet-state_with after need).1 (kept ((IsMet-state_with before need).0 met)))
            (all.0 other),
        back packages all.1,
      )
