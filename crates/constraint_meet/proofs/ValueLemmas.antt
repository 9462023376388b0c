-- The values of a SET, gone through one by one.
use Rattle.std.proofs.Common.{◌≡◌, ℕ, zero, suc, Bool, true, false, ◌||◌, List, [], ◌∷◌, length}
use Rattle.std.proofs.Common.{Option, Some, None, refl, sym, ap, ◌∙◌, arith}
use Rattle.std.specs.Prelude.{IsTrue, IfSome, IfNone, is_some, bytes_eq, Contains}
use Rattle.std.specs.List.{list_all, list_any}
use Rattle.std.proofs.lemmas.Bool.{false≢true}
use Rattle.std.proofs.lemmas.Slice.Eq.{bytes_eq-Decides}
use Rattle.der_core.specs.AttributeReading.{are_elements}
use Rattle.der_core.specs.Element.{enc}
use Rattle.der_core.specs.Reading.{◌>>?◌, FirstElement, front_of}
use Rattle.der_core.specs.Shapes.{any_element, listed}
use Rattle.der_core.proofs.AttributeLaws.{any_element_falls}
use Rattle.der_core.proofs.Shapes.{listed_more, listed_none, listed_end}
use Rattle.constraint_meet.specs.declared.places.Part.TheVariants.{Whole}
use Rattle.constraint_meet.specs.Index.{AreLookedUp}
use Rattle.constraint_meet.specs.Permits.{values_in}
use Rattle.constraint_meet.specs.Places.{Holds}

abbrev pub Elements : List ℕ → Type 0
Elements octets = IsTrue (are_elements octets)

-- one more is passed
pub values_more : (octets rest element : List ℕ) (x : FirstElement) → Elements octets → front_of octets ≡ Some x
    → element ≡ enc x.0 x.1.0 → rest ≡ x.1.1 → Elements rest × (values_in octets ≡ element ∷ values_in rest)
unfolding are_elements
values_more octets rest element x are is spelled left = by (listed any_element x.1.1) refl are
  where
    front : any_element octets ≡ Some (enc x.0 x.1.0, x.1.1)
    front = ap (λ (r : Option FirstElement). r >>? λ y. Some (enc y.0 y.1.0, y.1.1)) is

    more : listed any_element octets ≡ (listed any_element x.1.1 >>? λ vs. Some (enc x.0 x.1.0 ∷ vs))
    more = listed_more any_element any_element_falls octets (enc x.0 x.1.0, x.1.1) front

    by : (r : Option (List (List ℕ))) → listed any_element x.1.1 ≡ r → is_some (listed any_element octets) ≡ true
        → (is_some (listed any_element rest) ≡ true) × (values_in octets ≡ element ∷ values_in rest)
    by None none all =
        let e : listed any_element octets ≡ None = more ∙ rw none refl in absurd (false≢true (sym (ap is_some e) ∙ all))
    by (Some vs) some all = (rw (left, some) refl, rw (left, spelled, more, some) refl)

-- none is left
pub values_none : (octets : List ℕ) → Elements octets → front_of octets ≡ None → values_in octets ≡ []
unfolding are_elements
values_none [] are is = rw (listed_end any_element) refl
values_none (b ∷ bs) are is =
    absurd (false≢true (ap is_some (sym (listed_none any_element (b ∷ bs) (omega arith)
    (ap (λ (r : Option FirstElement). r >>? λ y. Some (enc y.0 y.1.0, y.1.1)) is))) ∙ are))

pub all_on : {A : Type 0} (p : A → Bool) (all : Bool) (xs more : List A) (x : A) → all ≡ list_all p xs → xs ≡ x ∷ more
    → p x ≡ true → all ≡ list_all p more
all_on p all xs more x so_far is passes = so_far ∙ rw (is, passes) refl

pub all_stop : {A : Type 0} (p : A → Bool) (all : Bool) (xs more : List A) (x : A) → all ≡ list_all p xs → xs ≡ x ∷ more
    → p x ≡ false → all ≡ false
all_stop p all xs more x so_far is fails = so_far ∙ rw (is, fails) refl

pub any_on : {A : Type 0} (p : A → Bool) (all : Bool) (xs more : List A) (x : A) → all ≡ list_any p xs → xs ≡ x ∷ more
    → p x ≡ false → all ≡ list_any p more
any_on p all xs more x so_far is fails = so_far ∙ rw (is, fails) refl

pub any_stop : {A : Type 0} (p : A → Bool) (all : Bool) (xs more : List A) (x : A) → all ≡ list_any p xs → xs ≡ x ∷ more
    → p x ≡ true → all ≡ true
any_stop p all xs more x so_far is passes = so_far ∙ rw (is, passes) refl

-- whether octets are among others
pub is_one : (listed : List (List ℕ)) (value : List ℕ) → Contains listed value
    → list_any (λ one. bytes_eq one value) listed ≡ true
is_one [] value at = absurd (omega (arith, at.1))
is_one (one ∷ more) value (zero, less, is) = rw ((bytes_eq-Decides one value).1 is) refl
is_one (one ∷ more) value (suc k, less, is) = either (bytes_eq one value) (is_one more value (k, omega (arith, less), is))
  where
    either : (b : Bool) → list_any (λ one. bytes_eq one value) more ≡ true
        → (b || list_any (λ one. bytes_eq one value) more) ≡ true
    either true later = refl
    either false later = later

pub is_none_of : (listed : List (List ℕ)) (value : List ℕ) → (Contains listed value → ⊥)
    → list_any (λ one. bytes_eq one value) listed ≡ false
is_none_of [] value never = refl
is_none_of (one ∷ more) value never =
    by (bytes_eq one value) refl (is_none_of more value (λ at. never (suc at.0, omega (arith, at.1), at.2)))
  where
    by : (b : Bool) → bytes_eq one value ≡ b → list_any (λ one. bytes_eq one value) more ≡ false
        → (b || list_any (λ one. bytes_eq one value) more) ≡ false
    by true is later = absurd (never (0, omega arith, (bytes_eq-Decides one value).0 is))
    by false is later = later

-- what a search says of the values
pub search_tells : (octets places : List ℕ) (left : ℕ) (values value : List ℕ) → AreLookedUp octets places left values
    → (o : Option ℕ) → IfSome o (Holds Whole octets places left (length values) value)
    → IfNone o ((place : ℕ) → Holds Whole octets places left (length values) value place → ⊥)
    → is_some o ≡ list_any (λ one. bytes_eq one value) (values_in values)
search_tells octets places left values value looked None some none =
    sym (is_none_of (values_in values) value (looked.none value none))
search_tells octets places left values value looked (Some place) some none =
    sym (is_one (values_in values) value (looked.found value place some))
