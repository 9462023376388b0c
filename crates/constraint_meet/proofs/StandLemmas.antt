-- What stands at the places of constraints.
use Rattle.std.proofs.Common.{◌≡◌, ◌+◌, ℕ, List, [], ◌∷◌, ◌++◌, length}
use Rattle.std.proofs.Common.{Option, Some, refl, sym, ap, ◌∙◌, subst, arith, inl, inr, append_assoc}
use Rattle.std.specs.List.{AllByRecursion, concat, flat_map}
use Rattle.std.specs.Option.{option_map_or}
use Rattle.std.proofs.lemmas.Grind.{flat_map-append}
use Rattle.std.proofs.lemmas.List.{length-append}
use Rattle.der_core.specs.Attribute.{Attribute, attribute_contents, attribute_text}
use Rattle.der_core.specs.Element.{enc, IsElement}
use Rattle.der_core.specs.Objects.{IsOid}
use Rattle.der_core.specs.Reading.{FirstElement, front_of}
use Rattle.der_core.specs.Shapes.{IsOneElement}
use Rattle.der_core.proofs.Places.{length-enc}
use Rattle.der_core.proofs.Shapes.{front_of-enc, tagged_again, is_tag}
use Rattle.cert_fields.specs.Constraints.{ContentConstraint, entry_text, IsConstrained}
use Rattle.constraint_meet.specs.declared.places.Part.{Part}
use Rattle.constraint_meet.specs.declared.places.Part.TheVariants.{Contents, Whole}
use Rattle.constraint_meet.specs.Places.{part_of, part_at}
use Rattle.constraint_meet.specs.Index.{places_of, listed_at, StandsAmong, IsAmong}
use Rattle.constraint_meet.proofs.PlaceLemmas.{Among, EndsIn, ends_later, ends_through, ends_before, from_end}
use Rattle.constraint_meet.proofs.PlaceLemmas.{contents_end, attributes_end}

-- the element that octets begin with stands where they begin
pub stands : (part : Part) (octets : List ℕ) (tag : ℕ) (contents rest : List ℕ) (place : ℕ) → IsElement tag contents
    → EndsIn octets (enc tag contents ++ rest) → length (enc tag contents ++ rest) ≡ place
    → part_at part octets place ≡ part_of part (tag, (contents, rest))
unfolding part_at
stands part octets tag contents rest place h ends size =
    ap (λ (o : List ℕ). option_map_or (part_of part) (front_of o) []) (from_end octets (enc tag contents ++ rest) place ends size)
    ∙ ap (λ (r : Option FirstElement). option_map_or (part_of part) r []) (front_of-enc tag contents rest h)

-- ---- values

pub value_at : (octets : List ℕ) (xs : List (List ℕ)) (tail : List ℕ) (after : ℕ) → AllByRecursion IsOneElement xs
    → EndsIn octets (concat xs ++ tail) → length tail ≡ after → (place : ℕ) → Among place (places_of after xs)
    → Among (part_at Whole octets place) xs
value_at octets [] tail after each ends size place at = absurd at
value_at octets (x ∷ xs) tail after each ends size place (inl is) = inl (sym (whole each.0))
  where
    whole : IsOneElement x → part_at Whole octets place ≡ x
    whole (tag, contents, h, same) =
        stands Whole octets tag contents (concat xs ++ tail) place h
        (rw (← same) (subst (EndsIn octets) (append_assoc x (concat xs) tail) ends))
        (rw (← same) (omega (
          arith,
          length-append x (concat xs ++ tail),
          length-append (concat xs) tail,
          length-append x (concat xs),
          is,
          size,
        )))
        ∙ sym same
value_at octets (x ∷ xs) tail after each ends size place (inr later) =
    inr (value_at octets xs tail after each.1
    (ends_later octets x (concat xs ++ tail) (subst (EndsIn octets) (append_assoc x (concat xs) tail) ends)) size place later)

pub place_of_value : (octets : List ℕ) (xs : List (List ℕ)) (tail : List ℕ) (after : ℕ) → AllByRecursion IsOneElement xs
    → EndsIn octets (concat xs ++ tail) → length tail ≡ after → (value : List ℕ) → Among value xs
    → (place : ℕ) × Among place (places_of after xs) × (part_at Whole octets place ≡ value)
place_of_value octets [] tail after each ends size value at = absurd at
place_of_value octets (x ∷ xs) tail after each ends size value (inl is) =
    (length (concat (x ∷ xs)) + after, inl refl, whole each.0 ∙ is)
  where
    whole : IsOneElement x → part_at Whole octets (length (concat (x ∷ xs)) + after) ≡ x
    whole (tag, contents, h, same) =
        stands Whole octets tag contents (concat xs ++ tail) (length (concat (x ∷ xs)) + after) h
        (rw (← same) (subst (EndsIn octets) (append_assoc x (concat xs) tail) ends))
        (rw (← same) (omega (
          arith,
          length-append x (concat xs ++ tail),
          length-append (concat xs) tail,
          length-append x (concat xs),
          size,
        )))
        ∙ sym same
place_of_value octets (x ∷ xs) tail after each ends size value (inr later) =
    let found = place_of_value octets xs tail after each.1
    (ends_later octets x (concat xs ++ tail) (subst (EndsIn octets) (append_assoc x (concat xs) tail) ends)) size value
    later in
    (found.0, inr found.1, found.2)

-- ---- types

oid_element : (kind : List ℕ) → IsOid kind → IsElement 0x06 kind
oid_element kind h = record {
  octet = (is_tag 0x06 refl).octet;
  low_bits = (is_tag 0x06 refl).low_bits;
  fits = omega (arith, h.most);
}

set_element : (a : Attribute) → IsConstrained a → IsElement 0x31 a.values
set_element a h = record {
  octet = (is_tag 0x31 refl).octet;
  low_bits = (is_tag 0x31 refl).low_bits;
  fits =
      omega (arith, h.attribute.fits, length-append (enc 0x06 a.kind) (enc 0x31 a.values), length-enc 0x31 a.values);
}

-- where a constrained attribute of an entry stands in the text of all
pub stands_in : (entries : List ContentConstraint) (e : ContentConstraint) (after : ℕ) (a : Attribute) (left : ℕ)
    → StandsAmong entries e after → IsAmong e.attributes after a left
    → (tail : List ℕ) × (length tail ≡ left) × EndsIn (flat_map entry_text entries) (attribute_contents a ++ tail)
stands_in entries e after a left s i =
    let back = flat_map entry_text s.back in
    let more = flat_map attribute_text i.back in
    let all = flat_map entry_text entries in
    let last : EndsIn all (entry_text e ++ back) =
    (flat_map entry_text s.front, ap (flat_map entry_text) s.all ∙ flat_map-append entry_text s.front (e ∷ s.back)) in
    let inside : EndsIn (flat_map attribute_text e.attributes) (attribute_contents a ++ more) =
    ends_through (flat_map attribute_text e.attributes) (attribute_text a ++ more) (attribute_contents a ++ more) (
      flat_map attribute_text i.front,
      ap (flat_map attribute_text) i.all ∙ flat_map-append attribute_text i.front (a ∷ i.back),
    )
    (ends_before (attribute_text a) (attribute_contents a) more (contents_end a)) in
    let there : EndsIn all ((attribute_contents a ++ more) ++ back) =
    ends_through all (entry_text e ++ back) ((attribute_contents a ++ more) ++ back) last
    (ends_before (entry_text e) (attribute_contents a ++ more) back
    (ends_through (entry_text e) (flat_map attribute_text e.attributes) (attribute_contents a ++ more) (attributes_end e)
    inside)) in (
      more ++ back,
      omega (arith, length-append more back, s.behind, i.left),
      subst (EndsIn all) (append_assoc (attribute_contents a) more back) there,
    )

pub kind_at : (octets : List ℕ) (a : Attribute) (tail : List ℕ) (place : ℕ) → IsConstrained a
    → EndsIn octets (attribute_contents a ++ tail) → length (attribute_contents a ++ tail) ≡ place
    → part_at Contents octets place ≡ a.kind
kind_at octets a tail place h ends size =
    let same = append_assoc (enc 0x06 a.kind) (enc 0x31 a.values) tail in
    stands Contents octets 0x06 a.kind (enc 0x31 a.values ++ tail) place (oid_element a.kind h.attribute.kind)
    (subst (EndsIn octets) same ends) (ap length (sym same) ∙ size)

pub listed_are : (octets : List ℕ) (a : Attribute) (tail : List ℕ) (place : ℕ) → IsConstrained a
    → EndsIn octets (attribute_contents a ++ tail) → length (attribute_contents a ++ tail) ≡ place
    → listed_at octets place ≡ Some (a.values, length tail)
unfolding listed_at
listed_are octets a tail place h ends size =
    let same = append_assoc (enc 0x06 a.kind) (enc 0x31 a.values) tail in
    rw (
      from_end octets (attribute_contents a ++ tail) place ends size,
      same,
      front_of-enc 0x06 a.kind (enc 0x31 a.values ++ tail) (oid_element a.kind h.attribute.kind),
      tagged_again 0x31 a.values tail (set_element a h),
    ) refl
