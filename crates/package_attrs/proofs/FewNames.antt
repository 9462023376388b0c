-- Dependencies are 1 to 8 names, of which a ninth isn't read.
use Rattle.std.proofs.Common.{◌≡◌, ℕ, ◌<◌, ◌≤◌, true, false, ltb, List, [], ◌∷◌, ◌++◌, length, Option, Some, None}
use Rattle.std.proofs.Common.{refl, sym, ◌∙◌, ap, arith, inl, inr}
use Rattle.std.specs.Prelude.{is_some, if◌then◌else◌}
use Rattle.std.proofs.lemmas.Bool.{lt-ltb, le-ltb, ltb-true, and_parts, cases_Bool, false≢true}
use Rattle.std.proofs.lemmas.List.{length-append}
use Rattle.std.proofs.lemmas.Option.{none-some}
use Rattle.der_core.specs.Reading.{◌>>?◌}
use Rattle.der_core.specs.Shapes.{listed}
use Rattle.der_core.proofs.Listed.{listed_more, listed_none}
use Rattle.der_core.proofs.Lists.{with_front, stops, ends}
use Rattle.der_core.proofs.Numbers.{some_is}
use Rattle.package_attrs.specs.declared.name.PackageName.{PackageName}
use Rattle.attribute_set.specs.Items.{items_of, AreItems}
use Rattle.package_attrs.specs.ListReading.{is_some_and_few, names_of}
use Rattle.package_attrs.specs.Reading.{name_at}
use Rattle.package_attrs.proofs.Falls.{name_falls}

-- names that were read, where they are few
abbrev few_of : Option (List PackageName) → Option (List PackageName)
few_of r = r >>? λ names. if is_some_and_few names then Some names else None

names_are : (octets : List ℕ) → names_of octets ≡ few_of (listed name_at octets)
unfolding names_of
names_are octets = refl

few_or_not : (names : List PackageName) → is_some (few_of (Some names)) ≡ is_some_and_few names
few_or_not names = elim (cases_Bool (is_some_and_few names)) [ inl is ↦ rw is refl | inr isnt ↦ rw isnt refl ]

no_names : (octets : List ℕ) → listed name_at octets ≡ None → false ≡ is_some (names_of octets)
no_names octets none = sym (ap is_some (names_are octets ∙ ap few_of none))

-- octets are left, and so is a name
some_name : (items : List ℕ) → 0 < length items → listed name_at items ≡ Some [] → ⊥
some_name items some none = by_case (name_at items) refl
  where
    further : (name : PackageName) (r : Option (List PackageName)) → (r >>? λ names. Some (name ∷ names)) ≡ Some [] → ⊥
    further name None e = none-some [] e
    further name (Some names) e = omega (arith, ap length (some_is (name ∷ names) [] e))

    by_case : (r : Option (PackageName × List ℕ)) → name_at items ≡ r → ⊥
    by_case None is = none-some [] (sym (listed_none name_at items some is) ∙ none)
    by_case (Some x) is = further x.0 (listed name_at x.1) (sym (listed_more name_at name_falls items x is) ∙ none)

-- eight stand before others
pub too_many : (octets items : List ℕ) (front : List PackageName) → length front ≡ 8 → 0 < length items
    → listed name_at octets ≡ with_front front (listed name_at items) → false ≡ is_some (names_of octets)
too_many octets items front eight some so_far = by_case (listed name_at items) refl
  where
    many : (names : List PackageName) → 9 ≤ length names → is_some_and_few names ≡ false
    many names more = rw (lt-ltb 0 (length names) (omega (arith, more)), le-ltb (length names) 9 more) refl

    by_case : (r : Option (List PackageName)) → listed name_at items ≡ r → false ≡ is_some (names_of octets)
    by_case None is = no_names octets (so_far ∙ ap (with_front front) is)
    by_case (Some []) is = absurd (some_name items some is)
    by_case (Some (name ∷ names)) is =
        sym (ap is_some (names_are octets ∙ ap few_of (so_far ∙ ap (with_front front) is))
        ∙ few_or_not (front ++ name ∷ names)
        ∙ many (front ++ name ∷ names) (omega (arith, eight, length-append front (name ∷ names))))

-- no name stands in front of what is left
pub none_here : (octets items : List ℕ) (front : List PackageName) → 0 < length items → name_at items ≡ None
    → listed name_at octets ≡ with_front front (listed name_at items) → false ≡ is_some (names_of octets)
none_here octets items front some none so_far = no_names octets (stops name_at _ front items some so_far none)

-- nothing is left
pub all_read : (octets items : List ℕ) (front : List PackageName) (count : ℕ) → length front ≡ count → count ≤ 8
    → items ≡ [] → listed name_at octets ≡ with_front front (listed name_at items)
    → ltb 0 count ≡ is_some (names_of octets)
all_read octets items front count is most none so_far =
    sym (ap is_some (names_are octets ∙ ap few_of (ends name_at _ front items none so_far)) ∙ few_or_not front ∙ few)
  where
    few : is_some_and_few front ≡ ltb 0 count
    few = rw (is, lt-ltb count 9 (omega (arith, most))) elim (cases_Bool (ltb 0 count)) [
      | inl some ↦ rw some refl
      | inr isnt ↦ rw isnt refl
    ]

-- octets that are few names are such names
pub few_items : (octets : List ℕ) → is_some (names_of octets) ≡ true
    → AreItems name_at octets × (names_of octets ≡ Some (items_of name_at octets))
    × (length (items_of name_at octets) ≤ 8)
few_items octets some = by_case (listed name_at octets) refl
  where
    by_case : (r : Option (List PackageName)) → listed name_at octets ≡ r
        → AreItems name_at octets × (names_of octets ≡ Some (items_of name_at octets))
        × (length (items_of name_at octets) ≤ 8)
    by_case None is = absurd (false≢true (no_names octets is ∙ some))
    by_case (Some names) is = elim (cases_Bool (is_some_and_few names)) [
      | inl few ↦
          let parts = and_parts (ltb 0 (length names)) (ltb (length names) 9) few in (
            rw is refl,
            names_are octets ∙ rw (is, few) refl,
            rw is (omega (arith, ltb-true (length names) 9 parts.1)),
          )
      | inr not_few ↦
          let found = ap is_some (names_are octets ∙ ap few_of is) ∙ few_or_not names ∙ not_few in
          absurd (false≢true (sym found ∙ some))
    ]
