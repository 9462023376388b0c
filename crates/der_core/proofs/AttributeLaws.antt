-- An attribute is read exactly where the octets are its text, and so are elements one after the other, and an
-- element alone.
use Rattle.std.proofs.Common.{◌≡◌, ℕ, ◌^◌, ◌<◌, true, false, cond, eqb, List, [], ◌∷◌, ◌++◌}
use Rattle.std.proofs.Common.{length, Option, Some, None, refl, sym, ap, subst, ◌∙◌, arith}
use Rattle.std.specs.List.{AllByRecursion, flat_map, concat}
use Rattle.std.specs.Prelude.{IsTrue, is_some, ◌↔◌}
use Rattle.std.proofs.lemmas.Bool.{eqb-true, eq-eqb, false≢true}
use Rattle.std.proofs.lemmas.List.{append-nil, nil_from_length, length-append}
use Rattle.std.proofs.lemmas.List.Concat.{concat_is}
use Rattle.std.proofs.lemmas.Option.{cond_some}
use Rattle.der_core.specs.Attribute.{AreElements, Attribute, attribute_contents, attribute_text, IsAttribute}
use Rattle.der_core.specs.Attribute.{value_text, IsValue}
use Rattle.der_core.specs.AttributeReading.{are_elements, elements_of, attribute_fields_of, attribute_of}
use Rattle.der_core.specs.AttributeReading.{attribute_at, one_element_of}
use Rattle.der_core.specs.Element.{enc, IsElement}
use Rattle.der_core.specs.Objects.{IsOid}
use Rattle.der_core.specs.Reading.{◌>>?◌, front_of, tagged_of}
use Rattle.der_core.specs.Shapes.{IsFront, IsWhole, IsOneElement, element, listed, anything, any_element}
use Rattle.der_core.proofs.Digits.{AreOctets, AreOctets-left}
use Rattle.der_core.proofs.Element.{element_takes}
use Rattle.der_core.proofs.Numbers.{some_bind, some_is}
use Rattle.der_core.proofs.Shapes.{is_tag, element-front, sized-element-front, same-front, alone-whole}
use Rattle.der_core.proofs.Shapes.{before-whole, mapped-whole, listed-whole, any_element-front, oid-whole}
use Rattle.der_core.proofs.Shapes.{element-falls, listed_more, listed_none, listed_end, front_of-enc}
use Rattle.der_core.proofs.Fronts.{front_take}
use Rattle.der_core.proofs.Places.{length-enc}

-- ---- elements, one after the other

front_falls : (bytes : List ℕ) (x : ℕ × (List ℕ × List ℕ)) → front_of bytes ≡ Some x → length x.1.1 < length bytes
unfolding tagged_of
front_falls bytes x is =
    let tagged : element x.0 anything bytes ≡ Some (x.1.0, x.1.1) = rw (is, eq-eqb x.0 x.0 refl) refl in
    element-falls x.0 anything bytes (x.1.0, x.1.1) tagged

pub any_element_falls : (bytes : List ℕ) (x : List ℕ × List ℕ) → any_element bytes ≡ Some x → length x.1 < length bytes
any_element_falls bytes x e =
    let b = some_bind (front_of bytes) (λ y. Some (enc y.0 y.1.0, y.1.1)) x e in
    subst (λ (y : List ℕ × List ℕ). length y.1 < length bytes) (some_is (enc b.0.0 b.0.1.0, b.0.1.1) x b.2)
    (front_falls bytes b.0 b.1)

any_element_is : (bytes : List ℕ) (x : ℕ × (List ℕ × List ℕ)) → front_of bytes ≡ Some x
    → any_element bytes ≡ Some (enc x.0 x.1.0, x.1.1)
any_element_is bytes x e = rw e refl

any_element_none : (bytes : List ℕ) → front_of bytes ≡ None → any_element bytes ≡ None
any_element_none bytes e = rw e refl

pub more : (bytes : List ℕ) (x : ℕ × (List ℕ × List ℕ)) → front_of bytes ≡ Some x
    → are_elements bytes ≡ are_elements x.1.1
unfolding are_elements
more bytes x is =
    ap is_some (listed_more any_element any_element_falls bytes (enc x.0 x.1.0, x.1.1) (any_element_is bytes x is))
    ∙ by_case (listed any_element x.1.1)
  where
    by_case : (r : Option (List (List ℕ))) → is_some (r >>? λ vs. Some (enc x.0 x.1.0 ∷ vs)) ≡ is_some r
    by_case (Some vs) = refl
    by_case None = refl

pub stops : (bytes : List ℕ) → 0 < length bytes → front_of bytes ≡ None → are_elements bytes ≡ false
unfolding are_elements
stops bytes some is = ap is_some (listed_none any_element bytes some (any_element_none bytes is))

pub ends : are_elements [] ≡ true
unfolding are_elements
ends = ap is_some (listed_end any_element)

enc_some : (tag : ℕ) (contents : List ℕ) → 0 < length (enc tag contents)
unfolding enc
enc_some tag contents = omega arith

element_some : (element : List ℕ) → IsOneElement element → 0 < length element
element_some element (tag, contents, h, is) = rw is (enc_some tag contents)

elements-whole : IsWhole (flat_map (λ (element : List ℕ). element)) (AllByRecursion IsOneElement) (listed any_element)
elements-whole = listed-whole element_some any_element_falls any_element-front

pub are_elements_take : (octets : List ℕ) → AreOctets octets → are_elements octets ≡ true → AreElements octets
unfolding are_elements
are_elements_take octets are test = by_case (listed any_element octets) refl test
  where
    by_case : (r : Option (List (List ℕ))) → listed any_element octets ≡ r → is_some r ≡ true → AreElements octets
    by_case (Some elements) is test = let t = elements-whole.takes octets elements are is in (
      elements,
      t.0,
      t.1
          ∙ sym (concat_is elements),
    )
    by_case None is test = absurd cc

pub are_elements_again : (octets : List ℕ) → AreElements octets → are_elements octets ≡ true
unfolding are_elements
are_elements_again octets (elements, each, is) =
    ap (λ (bytes : List ℕ). is_some (listed any_element bytes)) (is ∙ concat_is elements)
    ∙ ap is_some (elements-whole.again elements each)

-- octets below the base, place by place

pub are_elements_says : (octets : List ℕ) → AreOctets octets → IsTrue (are_elements octets) ↔ AreElements octets
are_elements_says octets are = (are_elements_take octets are, are_elements_again octets)

-- an element is passed, and elements are left
pub passed : (octets : List ℕ) → IsTrue (are_elements octets) → 0 < length octets
    → (tag : ℕ) × (contents : List ℕ) × (rest : List ℕ) × (front_of octets
    ≡ Some (tag, (contents, rest))) × IsTrue (are_elements rest)
passed octets test some = by_case (front_of octets) refl
  where
    by_case : (r : Option (ℕ × (List ℕ × List ℕ))) → front_of octets ≡ r
        → (tag : ℕ) × (contents : List ℕ) × (rest : List ℕ) × (front_of octets
        ≡ Some (tag, (contents, rest))) × IsTrue (are_elements rest)
    by_case None is = absurd (false≢true (sym (stops octets some is) ∙ test))
    by_case (Some x) is = (x.0, x.1.0, x.1.1, is, sym (more octets x is) ∙ test)

-- ---- one element

one_take : (octets : List ℕ) (value : ℕ × List ℕ) → AreOctets octets → one_element_of octets ≡ Some value
    → IsElement value.0 value.1 × (octets ≡ enc value.0 value.1)
unfolding one_element_of
one_take octets value are e =
    let b = some_bind (front_of octets) (λ x. cond (eqb (length x.1.1) 0) (Some (x.0, x.1.0)) None) value e in
    let g = cond_some (eqb (length b.0.1.1) 0) (b.0.0, b.0.1.0) value b.2 in
    let t = element_takes octets b.0 are (front_take octets b.0 b.1) in
    let none : b.0.1.1 ≡ [] = nil_from_length b.0.1.1 (eqb-true _ _ g.0) in
    let whole : octets ≡ enc b.0.0 b.0.1.0 =
    t.1 ∙ ap (λ (rest : List ℕ). enc b.0.0 b.0.1.0 ++ rest) none ∙ append-nil (enc b.0.0 b.0.1.0) in
    subst (λ (y : ℕ × List ℕ). IsElement y.0 y.1 × (octets ≡ enc y.0 y.1)) g.1 (t.0, whole)

one_again : (value : ℕ × List ℕ) → IsElement value.0 value.1 → one_element_of (enc value.0 value.1) ≡ Some value
unfolding one_element_of
one_again value h =
    let front : front_of (enc value.0 value.1) ≡ Some (value.0, (value.1, [])) =
    ap front_of (sym (append-nil (enc value.0 value.1))) ∙ front_of-enc value.0 value.1 [] h in
    rw front refl

pub one_element-whole : IsWhole value_text IsValue one_element_of
one_element-whole = record { takes = λ octets value are e. one_take octets value are e; again = one_again }

-- ---- attributes

elements_of-whole : IsWhole (λ (octets : List ℕ). octets) AreElements elements_of
elements_of-whole = record {
  takes = λ bytes octets are e.
      let g = cond_some (are_elements bytes) bytes octets e in
      subst (λ (x : List ℕ). AreElements x × (bytes ≡ x)) g.1 (are_elements_take bytes are g.0, refl);
  again = λ octets h. rw (are_elements_again octets h) refl;
}

abbrev AreFields : Attribute → Type 0
AreFields a = IsOid a.kind × (AreElements a.values × (length a.values < 2 ^ 32))

fields-whole : IsWhole attribute_contents AreFields attribute_fields_of
unfolding attribute_fields_of
fields-whole =
    mapped-whole (λ x. record { kind = x.0; values = x.1 }) (λ x h. (h, refl)) (λ a h. ((a.kind, a.values), h, refl))
    (before-whole (element-front 0x06 (is_tag 0x06 refl) (λ id h. omega (arith, h.most)) oid-whole)
    (alone-whole (sized-element-front 0x31 (is_tag 0x31 refl) elements_of-whole)))

values_fit : (a : Attribute) → length (attribute_contents a) < 2 ^ 32 → length a.values < 2 ^ 32
values_fit a fits = omega (arith, fits, length-append (enc 0x06 a.kind) (enc 0x31 a.values), length-enc 0x31 a.values)

pub attr-whole : IsWhole attribute_text IsAttribute attribute_of
unfolding attribute_of
attr-whole =
    alone-whole (same-front (λ a h. (record { kind = h.0.0; values = h.0.1.0; fits = h.1 }, refl))
    (λ a h. ((h.kind, (h.values, values_fit a h.fits)), h.fits))
    (sized-element-front 0x30 (is_tag 0x30 refl) fields-whole))

attribute_element : (a : Attribute) → IsAttribute a → IsOneElement (attribute_text a)
attribute_element a h =
    (0x30, attribute_contents a, record { octet = omega arith; low_bits = omega arith; fits = h.fits }, refl)

pub attr-front : IsFront attribute_text IsAttribute attribute_at
unfolding attribute_at
attr-front = record {
  takes = λ bytes x octets e.
      let b = some_bind (any_element bytes) (λ y. attribute_of y.0 >>? λ a. Some (a, y.1)) x e in
      let c = some_bind (attribute_of b.0.0) (λ a. Some (a, b.0.1)) x b.2 in
      let t = any_element-front.takes bytes b.0 octets b.1 in
      let w = attr-whole.takes b.0.0 c.0 (AreOctets-left b.0.0 b.0.1 (subst AreOctets t.1 octets)) c.1 in
      subst (λ (y : Attribute × List ℕ). IsAttribute y.0
      × (bytes ≡ attribute_text y.0 ++ y.1)) (some_is (c.0, b.0.1) x c.2)
      (w.0, t.1 ∙ ap (λ (z : List ℕ). z ++ b.0.1) w.1);
  again = λ a rest h.
      rw (any_element-front.again (attribute_text a) rest (attribute_element a h), attr-whole.again a h) refl;
}

-- octets are one list of elements at most
pub one_elements : (these those : List (List ℕ)) → AllByRecursion IsOneElement these
    → AllByRecursion IsOneElement those → concat these ≡ concat those → these ≡ those
one_elements these those each each' e =
    some_is these those (sym (read these each) ∙ ap (listed any_element) e ∙ read those each')
  where
    read : (elements : List (List ℕ)) → AllByRecursion IsOneElement elements
        → listed any_element (concat elements) ≡ Some elements
    read elements each = ap (listed any_element) (concat_is elements) ∙ elements-whole.again elements each

pub one_attribute : (a b : Attribute) → IsAttribute a → IsAttribute b → attribute_text a ≡ attribute_text b → a ≡ b
one_attribute a b h k e = some_is a b (sym (attr-whole.again a h) ∙ ap attribute_of e ∙ attr-whole.again b k)
