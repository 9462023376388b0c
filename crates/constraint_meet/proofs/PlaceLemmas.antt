-- Where in the texts of constraints their parts stand.
use Rattle.std.proofs.Common.{◌≡◌, ◌≤◌, ◌<◌, ◌+◌, ◌-◌, ℕ, zero, suc, List, [], ◌∷◌, ◌++◌, length, drop}
use Rattle.std.proofs.Common.{refl, sym, ap, ◌∙◌, arith, ◌⊎◌, inl, inr, append_assoc}
use Rattle.std.specs.Prelude.{Contains}
use Rattle.std.specs.List.{AllByRecursion, concat, flat_map}
use Rattle.std.proofs.lemmas.Bool.{ne_eqb}
use Rattle.std.proofs.lemmas.Grind.{flat_map-append}
use Rattle.std.proofs.lemmas.List.{length-append, drop_at}
use Rattle.der_core.specs.Attribute.{Attribute, attribute_contents, attribute_text, AreElements}
use Rattle.der_core.specs.Element.{enc, length_octets}
use Rattle.der_core.specs.Shapes.{IsOneElement, text_unless}
use Rattle.der_core.proofs.Places.{length-enc}
use Rattle.cert_fields.specs.Constraints.{ContentConstraint, entry_contents, entry_text, IsConstrained, IsEntry}
use Rattle.cert_fields.specs.Constraints.{is_source, source_text, is_unconstrained, attributes_text}
use Rattle.constraint_meet.specs.Permits.{values_in}
use Rattle.constraint_meet.specs.Places.{from_place}
use Rattle.constraint_meet.specs.Index.{places_of, value_places, kind_places, all_places}
use Rattle.constraint_meet.proofs.TestLemmas.{element_some, elements-whole}

-- ---- membership

abbrev pub Among : {X : Type 0} → X → List X → Type 0
Among x [] = ⊥
Among x (y ∷ ys) = (y ≡ x) ⊎ Among x ys

pub among_from : {X : Type 0} (xs : List X) (x : X) → Contains xs x → Among x xs
among_from [] x at = absurd (omega (arith, at.1))
among_from (y ∷ ys) x (zero, less, is) = inl is
among_from (y ∷ ys) x (suc k, less, is) = inr (among_from ys x (k, omega (arith, less), is))

pub among_to : {X : Type 0} (xs : List X) (x : X) → Among x xs → Contains xs x
among_to [] x at = absurd at
among_to (y ∷ ys) x (inl is) = (zero, omega arith, is)
among_to (y ∷ ys) x (inr later) = let at = among_to ys x later in (suc at.0, omega (arith, at.1), at.2)

pub among_split : {X : Type 0} (xs ys : List X) (x : X) → Among x (xs ++ ys) → Among x xs ⊎ Among x ys
among_split [] ys x at = inr at
among_split (z ∷ zs) ys x (inl is) = inl (inl is)
among_split (z ∷ zs) ys x (inr later) = elim (among_split zs ys x later) [
  | inl here ↦ inl (inr here)
  | inr there ↦ inr there
]

pub among_left : {X : Type 0} (xs ys : List X) (x : X) → Among x xs → Among x (xs ++ ys)
among_left [] ys x at = absurd at
among_left (z ∷ zs) ys x (inl is) = inl is
among_left (z ∷ zs) ys x (inr later) = inr (among_left zs ys x later)

pub among_right : {X : Type 0} (xs ys : List X) (x : X) → Among x ys → Among x (xs ++ ys)
among_right [] ys x at = at
among_right (z ∷ zs) ys x at = inr (among_right zs ys x at)

-- ---- ends

abbrev pub EndsIn : List ℕ → List ℕ → Type 0
EndsIn octets end = (front : List ℕ) × (octets ≡ front ++ end)

pub ends_later : (octets middle end : List ℕ) → EndsIn octets (middle ++ end) → EndsIn octets end
ends_later octets middle end (front, is) = (front ++ middle, is ∙ sym (append_assoc front middle end))

pub ends_through : (octets middle end : List ℕ) → EndsIn octets middle → EndsIn middle end → EndsIn octets end
ends_through octets middle end (front, is) (more, same) =
    (front ++ more, is ∙ ap (λ (x : List ℕ). front ++ x) same ∙ sym (append_assoc front more end))

pub ends_before : (octets end rest : List ℕ) → EndsIn octets end → EndsIn (octets ++ rest) (end ++ rest)
ends_before octets end rest (front, is) =
    (front, ap (λ (x : List ℕ). x ++ rest) is ∙ append_assoc front end rest)

pub ends_size : (octets end : List ℕ) → EndsIn octets end → length end ≤ length octets
ends_size octets end (front, is) = omega (arith, ap length is, length-append front end)

pub from_end : (octets end : List ℕ) (place : ℕ) → EndsIn octets end → length end ≡ place
    → from_place octets place ≡ end
from_end octets end place (front, is) size =
    let start : length octets - place ≡ length front = omega (arith, ap length is, length-append front end, size) in
    rw start (ap (drop (length front)) is ∙ drop_at front end (length front) refl)

enc_ends : (tag : ℕ) (contents : List ℕ) → EndsIn (enc tag contents) contents
unfolding enc
enc_ends tag contents = (tag ∷ length_octets (length contents), refl)

pub contents_end : (a : Attribute) → EndsIn (attribute_text a) (attribute_contents a)
contents_end a = enc_ends 0x30 (attribute_contents a)

pub values_end : (a : Attribute) → EndsIn (attribute_contents a) a.values
values_end a =
    ends_through (attribute_contents a) (enc 0x31 a.values) a.values (enc 0x06 a.kind, refl) (enc_ends 0x31 a.values)

constrained_end : (attributes : List Attribute)
    → EndsIn (text_unless is_unconstrained attributes_text attributes) (flat_map attribute_text attributes)
constrained_end [] = ([], refl)
constrained_end (a ∷ more) =
    rw (ne_eqb (suc (length more)) 0 (λ e. omega arith)) (enc_ends 0x30 (flat_map attribute_text (a ∷ more)))

pub attributes_end : (e : ContentConstraint) → EndsIn (entry_text e) (flat_map attribute_text e.attributes)
attributes_end e =
    let all = flat_map attribute_text e.attributes in
    let constrained = text_unless is_unconstrained attributes_text e.attributes in
    let source = text_unless is_source source_text e.can_source in
    ends_through (entry_text e) (entry_contents e) all (enc_ends 0x30 (entry_contents e))
    (ends_through (entry_contents e) (source ++ constrained) all (enc 0x06 e.content, refl)
    (ends_through (source ++ constrained) constrained all (source, refl) (constrained_end e.attributes)))

-- ---- between which places

pub all_between : (xs : List (List ℕ)) → AllByRecursion IsOneElement xs → (after place : ℕ)
    → Among place (places_of after xs) → (after < place) × (place ≤ length (concat xs) + after)
all_between [] each after place at = absurd at
all_between (x ∷ xs) each after place (inl is) =
    (omega (arith, is, element_some x each.0, length-append x (concat xs)), omega (arith, is))
all_between (x ∷ xs) each after place (inr later) =
    let between = all_between xs each.1 after place later in
    (between.0, omega (arith, between.1, length-append x (concat xs)))

-- elements are those that their octets hold
pub values_are : (octets : List ℕ) → AreElements octets
    → AllByRecursion IsOneElement (values_in octets) × (concat (values_in octets) ≡ octets)
values_are octets (elements, each, is) =
    let read : values_in octets ≡ elements = rw (is, elements-whole.again elements each) refl in
    (rw read each, rw read (sym is))

-- places that lie in the text of constrained attributes
abbrev pub LieWithin : (ℕ → List Attribute → List ℕ) → Type 0
LieWithin places = (attributes : List Attribute) → AllByRecursion IsConstrained attributes → (after place : ℕ)
    → Among place (places after attributes)
    → (after < place) × (place ≤ length (flat_map attribute_text attributes) + after)

pub one_attribute : (a : Attribute) (more : List ℕ) → length a.values + length more ≤ length (attribute_text a ++ more)
one_attribute a more =
    omega (
      arith,
      length-append (attribute_text a) more,
      ends_size (attribute_text a) (attribute_contents a) (contents_end a),
      ends_size (attribute_contents a) a.values (values_end a),
    )

pub values_within : LieWithin value_places
values_within [] each after place at = absurd at
values_within (a ∷ more) each after place at =
    elim (among_split (places_of (length (flat_map attribute_text more) + after) (values_in a.values))
    (value_places after more) place at) [
      | inl here ↦
          let are = values_are a.values each.0.attribute.values in
          let between = all_between (values_in a.values) are.0 (length (flat_map attribute_text more) + after) place here in
          (omega (arith, between.0), omega (arith, between.1, ap length are.1, one_attribute a (flat_map attribute_text more)))
      | inr later ↦
          let between = values_within more each.1 after place later in
          (between.0, omega (arith, between.1, length-append (attribute_text a) (flat_map attribute_text more)))
    ]

contents_some : (a : Attribute) → 0 < length (attribute_contents a)
contents_some a = omega (arith, length-append (enc 0x06 a.kind) (enc 0x31 a.values), length-enc 0x06 a.kind)

pub kinds_within : LieWithin kind_places
kinds_within [] each after place at = absurd at
kinds_within (a ∷ more) each after place (inl is) = (
  omega (arith, is, contents_some a),
  omega (
    arith,
    is,
    ends_size (attribute_text a) (attribute_contents a) (contents_end a),
    length-append (attribute_text a) (flat_map attribute_text more),
  ),
)
kinds_within (a ∷ more) each after place (inr later) =
    let between = kinds_within more each.1 after place later in
    (between.0, omega (arith, between.1, length-append (attribute_text a) (flat_map attribute_text more)))

-- ---- places among all are those of one part, where they lie in it

module _ (places : ℕ → List Attribute → List ℕ) (within : LieWithin places) where
  below_end : (entries : List ContentConstraint) → AllByRecursion IsEntry entries → (place : ℕ)
      → Among place (all_places places entries) → place ≤ length (flat_map entry_text entries)
  below_end [] each place at = absurd at
  below_end (e ∷ more) each place at =
      let back = flat_map entry_text more in
      elim (among_split (places (length back) e.attributes) (all_places places more) place at) [
        | inl here ↦
            let between = within e.attributes each.0.attributes (length back) place here in
            omega (
              arith,
              between.1,
              length-append (entry_text e) back,
              ends_size (entry_text e) (flat_map attribute_text e.attributes) (attributes_end e),
            )
        | inr later ↦
            let below = below_end more each.1 place later in omega (arith, below, length-append (entry_text e) back)
      ]

  pub in_entry : (front : List ContentConstraint) (e : ContentConstraint) (back : List ContentConstraint)
      → AllByRecursion IsEntry (front ++ e ∷ back) → (place : ℕ)
      → Among place (all_places places (front ++ e ∷ back)) → length (flat_map entry_text back) < place
      → place ≤ length (flat_map attribute_text e.attributes) + length (flat_map entry_text back)
      → Among place (places (length (flat_map entry_text back)) e.attributes)
  in_entry [] e back each place at low high =
      elim (among_split (places (length (flat_map entry_text back)) e.attributes) (all_places places back) place at) [
        | inl here ↦ here
        | inr later ↦ absurd (omega (arith, low, below_end back each.1 place later))
      ]
  in_entry (f ∷ front) e back each place at low high =
      let rest = flat_map entry_text (front ++ e ∷ back) in
      elim (among_split (places (length rest) f.attributes) (all_places places (front ++ e ∷ back)) place at) [
        | inl here ↦
            let between = within f.attributes each.0.attributes (length rest) place here in
            absurd (omega (
              arith,
              between.0,
              high,
              ap length (flat_map-append entry_text front (e ∷ back)),
              length-append (flat_map entry_text front) (entry_text e ++ flat_map entry_text back),
              length-append (entry_text e) (flat_map entry_text back),
              ends_size (entry_text e) (flat_map attribute_text e.attributes) (attributes_end e),
            ))
        | inr later ↦ in_entry front e back each.1 place later low high
      ]

  pub of_entry : (front : List ContentConstraint) (e : ContentConstraint) (back : List ContentConstraint) (place : ℕ)
      → Among place (places (length (flat_map entry_text back)) e.attributes)
      → Among place (all_places places (front ++ e ∷ back))
  of_entry [] e back place at =
      among_left (places (length (flat_map entry_text back)) e.attributes) (all_places places back) place at
  of_entry (f ∷ front) e back place at =
      among_right (places (length (flat_map entry_text (front ++ e ∷ back))) f.attributes)
      (all_places places (front ++ e ∷ back)) place (of_entry front e back place at)

pub in_attribute : (front : List Attribute) (a : Attribute) (back : List Attribute) (after : ℕ)
    → AllByRecursion IsConstrained (front ++ a ∷ back) → (place : ℕ)
    → Among place (value_places after (front ++ a ∷ back)) → length (flat_map attribute_text back) + after < place
    → place ≤ length a.values + (length (flat_map attribute_text back) + after)
    → Among place (places_of (length (flat_map attribute_text back) + after) (values_in a.values))
in_attribute [] a back after each place at low high =
    elim (among_split (places_of (length (flat_map attribute_text back) + after) (values_in a.values))
    (value_places after back) place at) [
      | inl here ↦ here
      | inr later ↦ absurd (omega (arith, low, (values_within back each.1 after place later).1))
    ]
in_attribute (f ∷ front) a back after each place at low high =
    let rest = flat_map attribute_text (front ++ a ∷ back) in
    elim (among_split (places_of (length rest + after) (values_in f.values)) (value_places after (front ++ a ∷ back))
    place at) [
      | inl here ↦
          let between = all_between (values_in f.values) (values_are f.values each.0.attribute.values).0
          (length rest + after) place here in
          absurd (omega (
            arith,
            between.0,
            high,
            ap length (flat_map-append attribute_text front (a ∷ back)),
            length-append (flat_map attribute_text front) (attribute_text a ++ flat_map attribute_text back),
            one_attribute a (flat_map attribute_text back),
          ))
      | inr later ↦ in_attribute front a back after each.1 place later low high
    ]

pub of_attribute : (front : List Attribute) (a : Attribute) (back : List Attribute) (after place : ℕ)
    → Among place (places_of (length (flat_map attribute_text back) + after) (values_in a.values))
    → Among place (value_places after (front ++ a ∷ back))
of_attribute [] a back after place at =
    among_left (places_of (length (flat_map attribute_text back) + after) (values_in a.values)) (value_places after back)
    place at
of_attribute (f ∷ front) a back after place at =
    among_right (places_of (length (flat_map attribute_text (front ++ a ∷ back)) + after) (values_in f.values))
    (value_places after (front ++ a ∷ back)) place (of_attribute front a back after place at)

-- the place of a type is that of one of the attributes
pub kind_of_place : (attributes : List Attribute) (after place : ℕ) → Among place (kind_places after attributes)
    → (front : List Attribute) × (a : Attribute) × (back : List Attribute) × (attributes ≡ front ++ a ∷ back)
    × (place ≡ length (attribute_contents a) + (length (flat_map attribute_text back) + after))
kind_of_place [] after place at = absurd at
kind_of_place (a ∷ more) after place (inl is) = ([], a, more, refl, sym is)
kind_of_place (a ∷ more) after place (inr later) =
    let (front, it, back, all, is) = kind_of_place more after place later in
    (a ∷ front, it, back, ap (λ (xs : List Attribute). a ∷ xs) all, is)

pub place_of_kind : (front : List Attribute) (a : Attribute) (back : List Attribute) (after : ℕ)
    → Among (length (attribute_contents a) + (length (flat_map attribute_text back) + after))
    (kind_places after (front ++ a ∷ back))
place_of_kind [] a back after = inl refl
place_of_kind (f ∷ front) a back after = inr (place_of_kind front a back after)
