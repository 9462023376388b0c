-- The tests tell what is permitted.
use Rattle.std.proofs.Common.{◌≡◌, ℕ, zero, suc, ◌<◌, Bool, true, false, ◌&&◌, ◌||◌, not, List, [], ◌∷◌, length}
use Rattle.std.proofs.Common.{Option, Some, None, ◌⊎◌, inl, inr, refl, sym, ap, subst, ◌∙◌, arith}
use Rattle.std.specs.Prelude.{IsTrue, Contains, bytes_eq}
use Rattle.std.specs.Bool.{Decides}
use Rattle.std.specs.List.{AllByRecursion, list_all, list_any, flat_map}
use Rattle.std.specs.Option.{option_map_or, unwrap_or}
use Rattle.std.proofs.lemmas.Bool.{cases_Bool, false≢true}
use Rattle.std.proofs.lemmas.Option.{none-some}
use Rattle.std.proofs.lemmas.Slice.Eq.{bytes_eq-Decides}
use Rattle.der_core.specs.Attribute.{Attribute}
use Rattle.der_core.specs.Element.{AreOctets}
use Rattle.der_core.specs.Shapes.{any_element, listed, IsOneElement, IsWhole}
use Rattle.der_core.proofs.Numbers.{some_is}
use Rattle.der_core.proofs.Digits.{AreOctets-left, AreOctets-right}
use Rattle.der_core.proofs.Shapes.{listed-whole, any_element-front}
use Rattle.der_core.proofs.AttributeLaws.{any_element_falls}
use Rattle.cert_fields.specs.Constraints.{ContentConstraint}
use Rattle.package_attrs.specs.AttributeTypes.{firmware_package_id, target_hardware_ids}
use Rattle.package_attrs.specs.Covers.{identifier_covers, targets_cover}
use Rattle.package_attrs.proofs.CoverLemmas.{identifiers, targets}
use Rattle.constraint_meet.specs.Covers.{Covers, covers, covers_more}
use Rattle.constraint_meet.specs.Permits.{any_content, entry_for, or_else, deciding, values_in, IsCovered, Meets, Passes, Permits, AreOfOctets, ListOctets}
use Rattle.constraint_meet.specs.Tests.{is_covered, are_covered, meets, passes, entry_permits, member_permits}

-- ---- tests put together

pub both_tell : (b c : Bool) {P Q : Type 0} → Decides b P → Decides c Q → Decides (b && c) (P × Q)
both_tell true c p q = (λ e. (p.0 refl, q.0 e), λ f. q.1 f.1)
both_tell false c p q = (λ e. absurd (false≢true e), λ f. p.1 f.0)

pub either_tells : {P Q : Type 0} (b c : Bool) → Decides b P → Decides c Q → Decides (b || c) (P ⊎ Q)
either_tells true c p q = (λ e. inl (p.0 refl), λ f. refl)
either_tells {P} {Q} false c p q = (λ e. inr (q.0 e), back)
  where
    back : P ⊎ Q → c ≡ true
    back (inl x) = absurd (false≢true (p.1 x))
    back (inr x) = q.1 x

pub where_tells : (b c : Bool) {P Q : Type 0} → Decides b P → (P → Decides c Q) → Decides (not b || c) (P → Q)
where_tells true c p q = (λ e given. (q given).0 e, λ f. (q (p.0 refl)).1 (f (p.0 refl)))
where_tells false c p q = (λ e given. absurd (false≢true (p.1 given)), λ f. refl)

pub all_tell : {A : Type 0} (p : A → Bool) (P : A → Type 0) (xs : List A)
    → AllByRecursion (λ x. Decides (p x) (P x)) xs → Decides (list_all p xs) (AllByRecursion P xs)
all_tell p P [] each = (λ e. tt, λ f. refl)
all_tell p P (x ∷ xs) each = both_tell (p x) (list_all p xs) each.0 (all_tell p P xs each.1)

pub any_tells : {A : Type 0} (p : A → Bool) (P : A → Type 0) (xs : List A)
    → AllByRecursion (λ x. Decides (p x) (P x)) xs
    → Decides (list_any p xs) ((x : A) × Contains xs x × P x)
any_tells p P [] each = (λ e. absurd (false≢true e), λ f. absurd (omega (arith, f.1.1)))
any_tells {A} p P (x ∷ xs) each = by (p x) refl each.0 (any_tells p P xs each.1)
  where
    back : (b : Bool) → Decides b (P x) → Decides (list_any p xs) ((y : A) × Contains xs y × P y)
        → (y : A) × Contains (x ∷ xs) y × P y → (b || list_any p xs) ≡ true
    back true d rest f = refl
    back false d rest (y, (zero, less, is), holds) = absurd (false≢true (d.1 (subst P (sym is) holds)))
    back false d rest (y, (suc k, less, is), holds) = rest.1 (y, (k, omega (arith, less), is), holds)

    by : (b : Bool) → p x ≡ b → Decides b (P x) → Decides (list_any p xs) ((y : A) × Contains xs y × P y)
        → Decides (b || list_any p xs) ((y : A) × Contains (x ∷ xs) y × P y)
    by true is d rest = (λ e. (x, (0, omega arith, refl), d.0 refl), back true d rest)
    by false is d rest = (
      λ e. let f = rest.0 e in (f.0, (suc f.1.0, omega (arith, f.1.1), f.1.2), f.2),
      back false d rest,
    )

-- what holds of each holds of each in another way
pub each_also : {A : Type 0} {P Q : A → Type 0} → ((x : A) → P x → Q x) → (xs : List A) → AllByRecursion P xs
    → AllByRecursion Q xs
each_also step [] each = tt
each_also step (x ∷ xs) each = (step x each.0, each_also step xs each.1)

-- ---- values

pub element_some : (element : List ℕ) → IsOneElement element → 0 < length element
unfolding Rattle.der_core.specs.Element.enc
element_some element (tag, contents, h, is) = rw is (omega arith)

pub elements-whole : IsWhole (flat_map (λ (element : List ℕ). element)) (AllByRecursion IsOneElement) (listed any_element)
elements-whole = listed-whole element_some any_element_falls any_element-front

each_part : (parts : List (List ℕ)) → AreOctets (flat_map (λ (part : List ℕ). part) parts) → AllByRecursion AreOctets parts
each_part [] are = tt
each_part (part ∷ parts) are = (
  AreOctets-left part (flat_map (λ (part : List ℕ). part) parts) are,
  each_part parts (AreOctets-right part (flat_map (λ (part : List ℕ). part) parts) are),
)

pub values_are_octets : (octets : List ℕ) → AreOctets octets → AllByRecursion AreOctets (values_in octets)
values_are_octets octets are = by (listed any_element octets) refl
  where
    by : (r : Option (List (List ℕ))) → listed any_element octets ≡ r → AllByRecursion AreOctets (unwrap_or r [])
    by None is = tt
    by (Some values) is = each_part values (subst AreOctets (elements-whole.takes octets values are is).1 are)

-- ---- what is permitted

pub covers_tells : (kind listed value : List ℕ) → AreOctets listed → AreOctets value
    → Decides (covers kind listed value) (Covers kind listed value)
covers_tells kind listed value these those =
    either_tells (bytes_eq listed value) (covers_more kind listed value) (bytes_eq-Decides listed value)
    (either_tells (bytes_eq kind firmware_package_id && identifier_covers listed value)
    (bytes_eq kind target_hardware_ids && targets_cover listed value)
    (both_tell (bytes_eq kind firmware_package_id) (identifier_covers listed value)
    (bytes_eq-Decides kind firmware_package_id) (identifiers listed value these those))
    (both_tell (bytes_eq kind target_hardware_ids) (targets_cover listed value)
    (bytes_eq-Decides kind target_hardware_ids) (targets listed value these those)))

pub covered_tells : (constrained : Attribute) (value : List ℕ) → AreOctets constrained.values → AreOctets value
    → Decides (is_covered constrained value) (IsCovered constrained value)
covered_tells constrained value these those =
    any_tells (λ listed. covers constrained.kind listed value) (λ listed. Covers constrained.kind listed value)
    (values_in constrained.values)
    (each_also (λ listed are. covers_tells constrained.kind listed value are those) (values_in constrained.values)
    (values_are_octets constrained.values these))

pub meets_tells : (attribute constrained : Attribute) → AreOctets attribute.values → AreOctets constrained.values
    → Decides (meets attribute constrained) (Meets attribute constrained)
meets_tells attribute constrained those these =
    where_tells (bytes_eq constrained.kind attribute.kind) (are_covered constrained attribute.values)
    (bytes_eq-Decides constrained.kind attribute.kind)
    (λ _. all_tell (is_covered constrained) (IsCovered constrained) (values_in attribute.values)
    (each_also (λ value are. covered_tells constrained value these are) (values_in attribute.values)
    (values_are_octets attribute.values those)))

pub passes_tells : (entry : ContentConstraint) (attribute : Attribute) → AreOfOctets entry.attributes
    → AreOctets attribute.values → Decides (passes entry attribute) (Passes entry attribute)
passes_tells entry attribute these those =
    all_tell (meets attribute) (Meets attribute) entry.attributes
    (each_also (λ constrained are. meets_tells attribute constrained those are) entry.attributes these)

-- where an entry decides, and what it asks of attributes is told
pub member_tells : (content : List ℕ) (attributes : List Attribute) (entries : List ContentConstraint)
    → ((entry : ContentConstraint) → deciding content entries ≡ Some entry
    → AllByRecursion (λ a. Decides (passes entry a) (Passes entry a)) attributes)
    → Decides (member_permits content attributes entries) (Permits content attributes entries)
member_tells content attributes entries told =
    (to (deciding content entries) refl, λ permits. from permits (deciding content entries) permits.decides)
  where
    tells : (entry : ContentConstraint) → deciding content entries ≡ Some entry
        → Decides (entry_permits attributes entry) (IsTrue entry.can_source × AllByRecursion (Passes entry) attributes)
    tells entry is =
        both_tell entry.can_source (list_all (passes entry) attributes) (λ h. h, λ h. h)
        (all_tell (passes entry) (Passes entry) attributes (told entry is))

    to : (o : Option ContentConstraint) → deciding content entries ≡ o
        → option_map_or (entry_permits attributes) o false ≡ true → Permits content attributes entries
    to None is e = absurd (false≢true e)
    to (Some entry) is e =
        let parts = (tells entry is).0 e in
        record { entry = entry; decides = is; can_source = parts.0; pass = parts.1 }

    from : (permits : Permits content attributes entries) → (o : Option ContentConstraint) → o ≡ Some permits.entry
        → option_map_or (entry_permits attributes) o false ≡ true
    from permits o is =
        ap (λ o'. option_map_or (entry_permits attributes) o' false) is
        ∙ (tells permits.entry permits.decides).1 (permits.can_source, permits.pass)

-- what holds of each entry holds of the one that decides
found : (content : List ℕ) (entries : List ContentConstraint) (P : ContentConstraint → Type 0) → AllByRecursion P entries
    → (entry : ContentConstraint) → entry_for content entries ≡ Some entry → P entry
found content [] P each entry is = absurd (none-some entry is)
found content (first ∷ more) P each entry is = elim (cases_Bool (bytes_eq first.content content)) [
  | inl same ↦ subst P (some_is first entry (rw same at is)) each.0
  | inr differs ↦ found content more P each.1 entry (rw differs at is)
]

pub decided : (content : List ℕ) (entries : List ContentConstraint) (P : ContentConstraint → Type 0)
    → AllByRecursion P entries → (entry : ContentConstraint) → deciding content entries ≡ Some entry → P entry
decided content entries P each entry is = by (entry_for content entries) refl is
  where
    by : (o : Option ContentConstraint) → entry_for content entries ≡ o
        → or_else o (entry_for any_content entries) ≡ Some entry → P entry
    by None none is = found any_content entries P each entry is
    by (Some own) some is = found content entries P each entry (some ∙ is)

pub members_tell : (content : List ℕ) (attributes : List Attribute) (entries : List ContentConstraint)
    → AreOfOctets attributes → ListOctets entries
    → Decides (member_permits content attributes entries) (Permits content attributes entries)
members_tell content attributes entries those these =
    member_tells content attributes entries
    (λ entry is. each_also
    (λ a are. passes_tells entry a (decided content entries (λ e. AreOfOctets e.attributes) these entry is) are)
    attributes those)
