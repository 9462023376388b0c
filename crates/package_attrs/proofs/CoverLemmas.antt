-- The tests of what a listed value covers tell it.
use Rattle.std.proofs.Common.{◌≡◌, ℕ, zero, suc, Bool, true, leb, List, [], ◌∷◌, Option, Some, None, refl, sym, subst}
use Rattle.std.proofs.Common.{◌⊎◌, inl, inr, arith}
use Rattle.std.specs.Prelude.{◌↔◌, IsTrue, bytes_eq, ◌||◌}
use Rattle.std.specs.List.{AllByRecursion, Contains, list_all, list_any}
use Rattle.std.proofs.lemmas.Bool.{cases_Bool, false≢true, and_parts, leb-true, le-leb, or_left, or_right}
use Rattle.std.proofs.lemmas.Option.{none-some}
use Rattle.std.proofs.lemmas.Slice.Eq.{bytes_eq-Decides}
use Rattle.der_core.specs.Element.{AreOctets}
use Rattle.der_core.specs.Reading.{◌>>?◌}
use Rattle.der_core.proofs.Numbers.{some_is}
use Rattle.package_attrs.specs.declared.name.PackageName.{PackageName}
use Rattle.package_attrs.specs.declared.name.PackageName.TheVariants as names
use Rattle.package_attrs.specs.declared.name.Stale.{Stale}
use Rattle.package_attrs.specs.Identifier.{Named}
use Rattle.package_attrs.specs.ListReading.{targets_of}
use Rattle.package_attrs.specs.Reading.{identifier_of}
use Rattle.package_attrs.specs.Covers.{IsPreferred, CoversVersion, IdentifierCovers, CoversEach, TargetsCover}
use Rattle.package_attrs.specs.Covers.{preferred, preferred_of, is_late, identifier_covers, are_among, targets_cover}
use Rattle.package_attrs.proofs.IdentifierLaws.{identifier-whole}
use Rattle.package_attrs.proofs.ListLaws.{targets-whole}

same : (a b : List ℕ) → bytes_eq a b ≡ true → a ≡ b
same a b is = (bytes_eq-Decides a b).0 is

equal : (a b : List ℕ) → a ≡ b → bytes_eq a b ≡ true
equal a b is = (bytes_eq-Decides a b).1 is

-- either octets are the same, or another test holds
either : (a b : List ℕ) (other : Bool) → (bytes_eq a b || other) ≡ true → (a ≡ b) ⊎ (other ≡ true)
either a b other is = elim (cases_Bool (bytes_eq a b)) [
  | inl equal ↦ inl (same a b equal)
  | inr differs ↦ inr (rw differs at is)
]

-- ---- identifiers

-- a name that was read is that of an identifier
is_preferred : (octets id : List ℕ) (version : ℕ) → AreOctets octets → preferred_of octets ≡ Some (id, version)
    → IsPreferred octets id version
unfolding preferred_of
is_preferred octets id version are is = by_case (identifier_of octets) refl is
  where
    named : (name : PackageName) (stale : Option Stale) → identifier_of octets ≡ Some (record { name = name; stale = stale })
        → preferred name ≡ Some (id, version) → IsPreferred octets id version
    named (names.Preferred id' version') stale found same_name =
        let pair = some_is (id', version') (id, version) same_name in
        subst (λ (x : List ℕ × ℕ). IsPreferred octets x.0 x.1) pair
        (let t = identifier-whole.takes octets _ are found in (stale, t.0, t.1))
    named (names.Legacy legacy) stale found same_name = absurd (none-some (id, version) same_name)

    by_case : (r : Option Named) → identifier_of octets ≡ r → (r >>? λ i. preferred i.name) ≡ Some (id, version)
        → IsPreferred octets id version
    by_case None found is = absurd (none-some (id, version) is)
    by_case (Some i) found is = named i.name i.stale found is

preferred_again : (octets id : List ℕ) (version : ℕ) → IsPreferred octets id version
    → preferred_of octets ≡ Some (id, version)
unfolding preferred_of
preferred_again octets id version (stale, valid, is) = rw (is, identifier-whole.again _ valid) refl

late_tells : (listed value : List ℕ) → AreOctets listed → AreOctets value
    → is_late (preferred_of listed) (preferred_of value) ≡ true → CoversVersion listed value
late_tells listed value these those is = by_case (preferred_of listed) (preferred_of value) refl refl is
  where
    by_case : (a b : Option (List ℕ × ℕ)) → preferred_of listed ≡ a → preferred_of value ≡ b → is_late a b ≡ true
        → CoversVersion listed value
    by_case None b one other is = absurd (false≢true is)
    by_case (Some least) None one other is = absurd (false≢true is)
    by_case (Some least) (Some name) one other is =
        let parts = and_parts (bytes_eq least.0 name.0) (leb least.1 name.1) is in
        record {
          id = least.0;
          least = least.1;
          version = name.1;
          lists = is_preferred listed least.0 least.1 these one;
          has =
              subst (λ (id : List ℕ). IsPreferred value id name.1) (sym (same least.0 name.0 parts.0))
              (is_preferred value name.0 name.1 those other);
          late = leb-true least.1 name.1 parts.1;
        }

late_told : (listed value : List ℕ) → CoversVersion listed value
    → is_late (preferred_of listed) (preferred_of value) ≡ true
late_told listed value h =
    rw (
      preferred_again listed h.id h.least h.lists,
      preferred_again value h.id h.version h.has,
      equal h.id h.id refl,
      le-leb h.least h.version h.late,
    ) refl

pub identifiers : (listed value : List ℕ) → AreOctets listed → AreOctets value
    → IsTrue (identifier_covers listed value) ↔ IdentifierCovers listed value
identifiers listed value these those = (forth, back)
  where
    forth : IsTrue (identifier_covers listed value) → IdentifierCovers listed value
    forth is = elim (either listed value (is_late (preferred_of listed) (preferred_of value)) is) [
      | inl equal ↦ inl equal
      | inr late ↦ inr (late_tells listed value these those late)
    ]

    back : IdentifierCovers listed value → IsTrue (identifier_covers listed value)
    back (inl is) = or_left (bytes_eq listed value) (is_late (preferred_of listed) (preferred_of value))
        (equal listed value is)
    back (inr h) = or_right (bytes_eq listed value) (is_late (preferred_of listed) (preferred_of value))
        (late_told listed value h)

-- ---- hardware types

abbrev is_in : List (List ℕ) → List ℕ → Bool
is_in these target = list_any (λ one. bytes_eq one target) these

any_tells : (target : List ℕ) (these : List (List ℕ)) → is_in these target ≡ true → Contains these target
any_tells target [] is = absurd (false≢true is)
any_tells target (one ∷ others) is = elim (either one target (is_in others target) is) [
  | inl here ↦ (0, omega arith, here)
  | inr further ↦ let rest = any_tells target others further in (suc rest.0, omega (arith, rest.1), rest.2)
]

any_told : (target : List ℕ) (these : List (List ℕ)) → Contains these target → is_in these target ≡ true
any_told target [] (k, less, is) = absurd (omega (arith, less))
any_told target (one ∷ others) (zero, less, is) =
    or_left (bytes_eq one target) (is_in others target) (equal one target is)
any_told target (one ∷ others) (suc k, less, is) =
    or_right (bytes_eq one target) (is_in others target) (any_told target others (k, omega (arith, less), is))

each_tells : (these those : List (List ℕ)) → list_all (is_in these) those ≡ true
    → AllByRecursion (Contains these) those
each_tells these [] is = tt
each_tells these (target ∷ others) is =
    let parts = and_parts (is_in these target) (list_all (is_in these) others) is in
    (any_tells target these parts.0, each_tells these others parts.1)

each_told : (these those : List (List ℕ)) → AllByRecursion (Contains these) those
    → list_all (is_in these) those ≡ true
each_told these [] each = refl
each_told these (target ∷ others) each = rw (any_told target these each.0, each_told these others each.1) refl

among_tells : (listed value : List ℕ) → AreOctets listed → AreOctets value
    → are_among (targets_of listed) (targets_of value) ≡ true → CoversEach listed value
among_tells listed value these those is = by_case (targets_of listed) (targets_of value) refl refl is
  where
    by_case : (a b : Option (List (List ℕ))) → targets_of listed ≡ a → targets_of value ≡ b → are_among a b ≡ true
        → CoversEach listed value
    by_case None b one other is = absurd (false≢true is)
    by_case (Some a) None one other is = absurd (false≢true is)
    by_case (Some a) (Some b) one other is = record {
      these = a;
      those = b;
      lists = targets-whole.takes listed a these one;
      has = targets-whole.takes value b those other;
      each = each_tells a b is;
    }

among_told : (listed value : List ℕ) → CoversEach listed value
    → are_among (targets_of listed) (targets_of value) ≡ true
among_told listed value h =
    rw (h.lists.1, h.has.1, targets-whole.again h.these h.lists.0, targets-whole.again h.those h.has.0)
    (each_told h.these h.those h.each)

pub targets : (listed value : List ℕ) → AreOctets listed → AreOctets value
    → IsTrue (targets_cover listed value) ↔ TargetsCover listed value
targets listed value these those = (forth, back)
  where
    forth : IsTrue (targets_cover listed value) → TargetsCover listed value
    forth is = elim (either listed value (are_among (targets_of listed) (targets_of value)) is) [
      | inl equal ↦ inl equal
      | inr each ↦ inr (among_tells listed value these those each)
    ]

    back : TargetsCover listed value → IsTrue (targets_cover listed value)
    back (inl is) = or_left (bytes_eq listed value) (are_among (targets_of listed) (targets_of value))
        (equal listed value is)
    back (inr h) = or_right (bytes_eq listed value) (are_among (targets_of listed) (targets_of value))
        (among_told listed value h)
