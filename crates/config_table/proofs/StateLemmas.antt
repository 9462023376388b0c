-- The laws of states, by those of `put`.
use Rattle.std.proofs.Common.{◌≡◌, ℕ, ◌≤◌, max, Bool, true, false, ◌&&◌, nat_le, List, [], ◌∷◌, ◌++◌, map, slice_get, bytes_eq, Option, Some, None, option_map, is_some, IsTrue, refl, sym, ap, subst, ◌∙◌, ⊎_elim, arith}
use Rattle.std.proofs.lemmas.Bool.Decides.{nat_tests}
use Rattle.std.specs.List.{IsDistinct, list_any, find}
use Rattle.package_attrs.specs.declared.name.PackageName.{PackageName}
use Rattle.package_attrs.specs.declared.name.PackageName.TheVariants as names
use Rattle.config_table.specs.declared.stale_entry.StaleEntry.{StaleEntry}
use Rattle.config_table.specs.declared.stale_entry.StaleEntry.TheVariants as entries
use Rattle.config_table.specs.Names.{is_same, is_at_least}
use Rattle.config_table.specs.Keys.{is_same-equivalence}
use Rattle.config_table.specs.State.{Entry, State, Offer, entry_for, entry_with, state_with, placed, raised, raised_by, greater, last_stale, stale_number, stale_of, with_package, after_package, made_by}
use Rattle.config_table.specs.Rules.{IsStale, IsInstalled, IsDistinctState}
use Rattle.config_table.proofs.SameLemmas.{is_same-left}
use Rattle.config_table.proofs.PutLemmas.{JoinsNames, IsKept, distinct_put, put-new, list_any-is_some, place_put, any_put, find_put, map_put}

-- a package's new entry names the package
pub placing_joins : {I : Type 0} → JoinsNames {X = Entry I} (λ entry. entry.name) (λ old new. new)
placing_joins = record { joined = λ old new same q. is_same-left new.name old.name q same }

greater_same : (old new : StaleEntry) (q : PackageName)
    → is_same (last_stale (greater old new)) q ≡ is_same (last_stale old) q
greater_same (entries.Preferred id upto) (entries.Preferred id' upto') (names.Preferred id'' version) = refl
greater_same (entries.Preferred id upto) (entries.Preferred id' upto') (names.Legacy octets) = refl
greater_same (entries.Preferred id upto) (entries.Legacy octets) q = refl
greater_same (entries.Legacy octets) new q = refl

-- the greater of two entries names what the old one does
pub raising_joins : JoinsNames last_stale greater
raising_joins = record { joined = λ old new same. greater_same old new }

-- raising keeps names distinct
distinct_raised_by : (made : Option StaleEntry) (stale : List StaleEntry) → IsDistinct is_same (map last_stale stale)
    → IsDistinct is_same (map last_stale (raised_by made stale))
distinct_raised_by None stale d = d
distinct_raised_by (Some new) stale d = distinct_put last_stale greater raising_joins new stale d

module _ {I : Type 0} where
  -- names stay distinct where a package is installed
  pub distinct_with : (offer : Offer) (digest : List ℕ) (image : I) (state : State I) → IsDistinctState state
      → IsDistinctState (with_package offer digest image state)
  distinct_with offer digest image state d = record {
    packages =
        distinct_put (λ entry. entry.name) (λ old new. new) placing_joins
        (entry_for offer digest image) state.packages d.packages;
    stale = distinct_raised_by offer.makes_stale state.stale d.stale;
  }

  -- and each installed package keeps its place
  pub place_with : (offer : Offer) (digest : List ℕ) (image : I) (state : State I) (place : ℕ) (entry : Entry I)
      → slice_get state.packages place ≡ Some entry
      → IsKept (λ entry. entry.name) (λ old new. new) placing_joins
      (with_package offer digest image state).packages place entry
  place_with offer digest image state place entry there =
      place_put (λ entry. entry.name) (λ old new. new) placing_joins
      (entry_for offer digest image) state.packages place entry there

-- whatever packages are installed, names stay distinct
pub distinct_made : (packages : List (Offer × List ℕ)) (state : State (List ℕ)) → IsDistinctState state
    → IsDistinctState (made_by packages state)
distinct_made [] state d = d
distinct_made (one ∷ more) state d =
    distinct_made more (after_package one.0 one.1 state) (distinct_with one.0 _ one.1 state d)

-- and each installed package keeps its place
pub place_made : (packages : List (Offer × List ℕ)) (state : State (List ℕ)) (place : ℕ) (before : Entry (List ℕ))
    → slice_get state.packages place ≡ Some before
    → (after : Entry (List ℕ)) × (slice_get (made_by packages state).packages place ≡ Some after)
    × IsTrue (is_same after.name before.name)
place_made [] state place before there = (before, there, is_same-equivalence.refl before.name)
place_made (one ∷ more) state place before there =
    let kept = place_with one.0 _ one.1 state place before there in
    let rest = place_made more (after_package one.0 one.1 state) place kept.after kept.there in
    (rest.0, rest.1, is_same-left rest.0.name kept.after.name before.name rest.2 ∙ kept.same)

le_max : (v n m : ℕ) → nat_le v n ≡ true → nat_le v (max n m) ≡ true
le_max v n m h = grind (arith, nat_tests)

keep_right : (a b c : Bool) → (b ≡ true → c ≡ true) → (a && b) ≡ true → (a && c) ≡ true
keep_right true b c f h = f h
keep_right false b c f h = h

-- what is stale by an entry is stale by the greater of it and another
greater_stale : (name : PackageName) (old new : StaleEntry) → is_at_least (last_stale old) name ≡ true
    → is_at_least (last_stale (greater old new)) name ≡ true
greater_stale (names.Preferred id version) (entries.Preferred id' upto) (entries.Preferred id'' upto') h =
    keep_right (bytes_eq id' id) (nat_le version upto) (nat_le version (max upto upto')) (le_max version upto upto') h
greater_stale (names.Legacy octets) (entries.Preferred id' upto) (entries.Preferred id'' upto') h = h
greater_stale name (entries.Preferred id upto) (entries.Legacy octets) h = h
greater_stale name (entries.Legacy octets) new h = h

stale_raised_by : (name : PackageName) (made : Option StaleEntry) (stale : List StaleEntry) → IsStale name stale
    → IsStale name (raised_by made stale)
stale_raised_by name None stale h = h
stale_raised_by name (Some new) stale h =
    any_put last_stale greater raising_joins (λ entry. is_at_least (last_stale entry) name)
    (λ old new same. greater_stale name old new) new stale h

-- what is stale stays stale
pub stale_made : (packages : List (Offer × List ℕ)) (state : State (List ℕ)) (name : PackageName)
    → IsStale name state.stale → IsStale name (made_by packages state).stale
stale_made [] state name h = h
stale_made (one ∷ more) state name h =
    stale_made more (after_package one.0 one.1 state) name (stale_raised_by name one.0.makes_stale state.stale h)

greater_number : (old new : StaleEntry) → stale_number old ≤ stale_number (greater old new)
greater_number (entries.Preferred id upto) (entries.Preferred id' upto') = omega arith
greater_number (entries.Preferred id upto) (entries.Legacy octets) = omega arith
greater_number (entries.Legacy octets) new = omega arith

-- the entry of a name and what becomes of it
record HasNumber (name : PackageName) (stale : List StaleEntry) (least : ℕ) : Type 0 where
  entry : StaleEntry
  found : find (λ entry. is_same name (last_stale entry)) stale ≡ Some entry
  high : least ≤ stale_number entry

number_raised_by : (name : PackageName) (least : ℕ) (made : Option StaleEntry) (stale : List StaleEntry)
    → HasNumber name stale least → HasNumber name (raised_by made stale) least
number_raised_by name least None stale h = h
number_raised_by name least (Some new) stale h =
    let kept = find_put last_stale greater raising_joins name new stale h.entry h.found in
    let higher : stale_number h.entry ≤ stale_number kept.after =
    ⊎_elim (λ e. subst (λ x. stale_number h.entry ≤ stale_number x) (sym e) (omega arith))
    (λ e. subst (λ x. stale_number h.entry ≤ stale_number x) (sym e) (greater_number h.entry new)) kept.is in
    record { entry = kept.after; found = kept.found; high = omega arith }

number_made : (packages : List (Offer × List ℕ)) (state : State (List ℕ)) (name : PackageName) (least : ℕ)
    → HasNumber name state.stale least → HasNumber name (made_by packages state).stale least
number_made [] state name least h = h
number_made (one ∷ more) state name least h =
    number_made more (after_package one.0 one.1 state) name least
    (number_raised_by name least one.0.makes_stale state.stale h)

-- an identifier's number never falls
pub stale_number_made : (packages : List (Offer × List ℕ)) (state : State (List ℕ)) (name : PackageName) (before : ℕ)
    → stale_of name state ≡ Some before
    → (after : ℕ) × (stale_of name (made_by packages state) ≡ Some after) × (before ≤ after)
stale_number_made packages state name before h = by (find (λ entry. is_same name (last_stale entry)) state.stale) refl h
  where
    by : (o : Option StaleEntry) → find (λ entry. is_same name (last_stale entry)) state.stale ≡ o
        → option_map stale_number o ≡ Some before
        → (after : ℕ) × (stale_of name (made_by packages state) ≡ Some after) × (before ≤ after)
    by None e h = absurd (let n : None ≡ Some before = h in cc)
    by (Some entry) e h =
        let is : stale_number entry ≡ before = cc in
        let kept = number_made packages state name before (record { entry = entry; found = e; high = omega arith }) in
        (stale_number kept.entry, ap (option_map stale_number) kept.found, kept.high)

-- a package goes into a state in the same way whatever stands for its images
pub with_package-state_with : {I J : Type 0} (f : I → J) (offer : Offer) (digest : List ℕ) (image : I) (state : State I)
    → state_with f (with_package offer digest image state) ≡ with_package offer digest (f image) (state_with f state)
with_package-state_with f offer digest image state = λ i. record {
  packages =
      map_put (λ (entry : Entry _). entry.name) (λ old new. new) (λ old new. new) (entry_with f) (λ old new. refl)
      (entry_for offer digest image) state.packages i;
  stale = raised_by offer.makes_stale state.stale;
}

fails : (b : Bool) → (b ≡ true → ⊥) → b ≡ false
fails true h = absurd (h refl)
fails false h = refl

-- a package that isn't installed goes last
pub placed-new : {I : Type 0} (new : Entry I) (packages : List (Entry I)) → (IsInstalled new.name packages → ⊥)
    → placed new packages ≡ packages ++ new ∷ []
placed-new new packages absent =
    put-new (λ entry. entry.name) (λ old new. new) new packages
    (fails (list_any (λ entry. is_same new.name entry.name) packages) absent)

-- and so does a stale entry whose identifier or legacy name isn't there
pub raised-new : {I : Type 0} (new : StaleEntry) (state : State I) → stale_of (last_stale new) state ≡ None
    → raised new state.stale ≡ state.stale ++ new ∷ []
raised-new new state h = put-new last_stale greater new state.stale (absent state.stale h)
  where
    absent : (stale : List StaleEntry)
        → option_map stale_number (find (λ entry. is_same (last_stale new) (last_stale entry)) stale) ≡ None
        → list_any (λ entry. is_same (last_stale new) (last_stale entry)) stale ≡ false
    absent stale h =
        list_any-is_some (λ entry. is_same (last_stale new) (last_stale entry)) stale
        ∙ none (find (λ entry. is_same (last_stale new) (last_stale entry)) stale) h
      where
        none : (o : Option StaleEntry) → option_map stale_number o ≡ None → is_some o ≡ false
        none None h = refl
        none (Some entry) h = absurd (let g : Some (stale_number entry) ≡ None = h in cc)
