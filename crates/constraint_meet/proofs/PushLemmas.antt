-- Places are added one by one.
use Rattle.std.proofs.Common.{◌≡◌, ◌≤◌, ◌+◌, ℕ, List, [], ◌∷◌, ◌++◌, length}
use Rattle.std.proofs.Common.{Some, None, refl, sym, ap, ◌∙◌, subst, arith, append_assoc}
use Rattle.std.specs.List.{AllByRecursion, concat, flat_map}
use Rattle.std.proofs.lemmas.List.{length-append, append-nil}
use Rattle.std.proofs.lemmas.Option.{none-some}
use Rattle.der_core.specs.Attribute.{Attribute, attribute_contents, attribute_text}
use Rattle.der_core.specs.Element.{enc, AreOctets, IsElement}
use Rattle.der_core.specs.Reading.{tagged_of}
use Rattle.der_core.proofs.AttributeLaws.{are_elements_take}
use Rattle.der_core.proofs.Digits.{AreOctets-right}
use Rattle.der_core.proofs.Numbers.{some_is}
use Rattle.der_core.proofs.Places.{length-enc}
use Rattle.der_core.proofs.Shapes.{tagged_again, is_tag}
use Rattle.cert_fields.specs.Constraints.{ContentConstraint, entry_text, IsConstrained}
use Rattle.constraint_meet.specs.Permits.{values_in}
use Rattle.constraint_meet.proofs.PlaceLemmas.{ends_size, attributes_end, values_are}
use Rattle.constraint_meet.proofs.ValueLemmas.{Elements}
use Rattle.constraint_meet.specs.Index.{places_of, kind_places}

-- constrained attributes are left, and the places of their types
pub record KindsLeft (all so_far : List ℕ) (after : ℕ) (octets : List ℕ) : Type 0 where
  pub left : List Attribute
  pub text : octets ≡ flat_map attribute_text left
  pub each : AllByRecursion IsConstrained left
  pub places : all ≡ so_far ++ kind_places after left

-- ---- room

pub contents_room : (octets contents rest : List ℕ) (tag : ℕ) → octets ≡ enc tag contents ++ rest
    → length contents + length rest ≤ length octets
contents_room octets contents rest tag is =
    omega (arith, ap length is, length-append (enc tag contents) rest, length-enc tag contents)

pub entry_room : (e : ContentConstraint) (more : List ContentConstraint)
    → length (flat_map attribute_text e.attributes) + length (flat_map entry_text more)
    ≤ length (flat_map entry_text (e ∷ more))
entry_room e more =
    omega (
      arith,
      length-append (entry_text e) (flat_map entry_text more),
      ends_size (entry_text e) (flat_map attribute_text e.attributes) (attributes_end e),
    )

-- ---- types

attribute_element : (a : Attribute) → IsConstrained a → IsElement 0x30 (attribute_contents a)
attribute_element a h = record {
  octet = (is_tag 0x30 refl).octet;
  low_bits = (is_tag 0x30 refl).low_bits;
  fits = h.attribute.fits;
}

nothing_tagged : (x : List ℕ × List ℕ) → tagged_of 0x30 [] ≡ Some x → ⊥
unfolding tagged_of Rattle.der_core.specs.Reading.front_of Rattle.der_core.specs.Reading.element_at
nothing_tagged x is = none-some x is

pub kinds_on : (all so_far pushed : List ℕ) (after : ℕ) (octets contents rest : List ℕ) → KindsLeft all so_far after octets
    → tagged_of 0x30 octets ≡ Some (contents, rest)
    → pushed ≡ so_far ++ (length contents + (length rest + after)) ∷ [] → KindsLeft all pushed after rest
kinds_on all so_far pushed after octets contents rest k read more = by k.left k.text k.each k.places
  where
    by : (left : List Attribute) → octets ≡ flat_map attribute_text left → AllByRecursion IsConstrained left
        → all ≡ so_far ++ kind_places after left → KindsLeft all pushed after rest
    by [] text each places = absurd (nothing_tagged (contents, rest) (rw text at read))
    by (a ∷ left) text each places =
        let same = some_is (attribute_contents a, flat_map attribute_text left) (contents, rest)
        (sym (tagged_again 0x30 (attribute_contents a) (flat_map attribute_text left) (attribute_element a each.0))
        ∙ (rw text at read)) in
        let first : attribute_contents a ≡ contents = ap (λ (x : List ℕ × List ℕ). x.0) same in
        let second : flat_map attribute_text left ≡ rest = ap (λ (x : List ℕ × List ℕ). x.1) same in
        record {
          left = left;
          text = sym second;
          each = each.1;
          places =
              places
              ∙ sym (append_assoc so_far ((length (attribute_contents a) + (length (flat_map attribute_text left) + after)) ∷ [])
              (kind_places after left))
              ∙ rw (first, second, ← more) refl;
        }

pub kinds_end : (all so_far : List ℕ) (after : ℕ) (octets : List ℕ) → KindsLeft all so_far after octets
    → tagged_of 0x30 octets ≡ None → all ≡ so_far
kinds_end all so_far after octets k read = by k.left k.text k.each k.places
  where
    by : (left : List Attribute) → octets ≡ flat_map attribute_text left → AllByRecursion IsConstrained left
        → all ≡ so_far ++ kind_places after left → all ≡ so_far
    by [] text each places = places ∙ append-nil so_far
    by (a ∷ left) text each places =
        absurd (none-some (attribute_contents a, flat_map attribute_text left) (sym (rw text at read)
        ∙ tagged_again 0x30 (attribute_contents a) (flat_map attribute_text left) (attribute_element a each.0)))

-- ---- values

pub joined_are : (octets : List ℕ) → AreOctets octets → Elements octets → concat (values_in octets) ≡ octets
joined_are octets are elements =
    (values_are octets (are_elements_take octets are elements)).1

-- one value is passed
pub values_on : (all so_far pushed : List ℕ) (after left : ℕ) (octets rest element : List ℕ) → AreOctets octets
    → Elements octets → left ≡ length octets → values_in octets ≡ element ∷ values_in rest
    → all ≡ so_far ++ places_of after (values_in octets) → pushed ≡ so_far ++ (left + after) ∷ []
    → all ≡ pushed ++ places_of after (values_in rest)
values_on all so_far pushed after left octets rest element are elements size passed places more =
    let text : left ≡ length (concat (element ∷ values_in rest)) =
    size ∙ ap length (sym (joined_are octets are elements)) ∙ ap (λ (xs : List (List ℕ)). length (concat xs)) passed in
    places ∙ ap (λ (xs : List (List ℕ)). so_far ++ places_of after xs) passed
    ∙ ap (λ (n : ℕ). so_far ++ (n + after) ∷ places_of after (values_in rest)) (sym text)
    ∙ sym (append_assoc so_far ((left + after) ∷ []) (places_of after (values_in rest)))
    ∙ ap (λ (xs : List ℕ). xs ++ places_of after (values_in rest)) (sym more)

-- ---- parts of a list, one after the other

pub part_on : {X : Type 0} (later : List X → List ℕ) (all so_far pushed : List ℕ) (xs more : List X)
    (x : X) (here : List ℕ) → xs ≡ x ∷ more → all ≡ so_far ++ later xs → later (x ∷ more) ≡ here ++ later more
    → pushed ≡ so_far ++ here → all ≡ pushed ++ later more
part_on later all so_far pushed xs more x here is so parts next =
    so ∙ ap (λ ys. so_far ++ later ys) is ∙ ap (λ (ys : List ℕ). so_far ++ ys) parts
    ∙ sym (append_assoc so_far here (later more)) ∙ ap (λ (ys : List ℕ). ys ++ later more) (sym next)

pub part_end : {X : Type 0} (later : List X → List ℕ) (all so_far : List ℕ) (xs : List X) → later [] ≡ [] → xs ≡ []
    → all ≡ so_far ++ later xs → all ≡ so_far
part_end later all so_far xs nothing is so =
    so ∙ ap (λ ys. so_far ++ later ys) is ∙ ap (λ (ys : List ℕ). so_far ++ ys) nothing ∙ append-nil so_far

pub octets_left : (octets front rest : List ℕ) → octets ≡ front ++ rest → AreOctets octets → AreOctets rest
octets_left octets front rest is are = AreOctets-right front rest (subst AreOctets is are)
