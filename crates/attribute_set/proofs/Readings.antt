-- Attributes one after the other: how one is passed, and what reading all of them in order says.
use Rattle.std.proofs.Common.{◌≡◌, ◌↔◌, ℕ, ◌<◌, List, length, map, Bool, Option, Some, None, is_some, IsTrue, sym, ap, subst, ◌∙◌, refl, arith}
use Rattle.std.specs.List.{AllByRecursion, IsDistinct}
use Rattle.std.specs.List.Sorted.{IsSorted}
use Rattle.std.specs.Ordering.{nat_cmp}
use Rattle.std.specs.Cmp.Lexicographic.{slice_cmp}
use Rattle.std.specs.Prelude.{bytes_eq}
use Rattle.std.proofs.lemmas.Bool.{false≢true}
use Rattle.std.proofs.lemmas.Option.{none-some}
use Rattle.der_core.specs.Attribute.{Attribute, attribute_text, IsAttribute}
use Rattle.der_core.specs.AttributeReading.{attribute_at, attribute_of}
use Rattle.der_core.specs.Element.{enc}
use Rattle.der_core.specs.Reading.{◌>>?◌, front_of}
use Rattle.der_core.specs.Reads.{Reads}
use Rattle.der_core.specs.Shapes.{IsWhole, listed, any_element}
use Rattle.der_core.proofs.AttributeLaws.{any_element_falls, attr-front}
use Rattle.der_core.proofs.Digits.{AreOctets}
use Rattle.der_core.proofs.Listed.{listed-whole}
use Rattle.der_core.proofs.Numbers.{some_bind, some_is}
use Rattle.attribute_set.specs.AttributeSet.{set_contents, AreAttributes, IsAttributeSet}

-- ---- one attribute

-- an attribute that is read leaves fewer octets
pub attribute_at_falls : (bytes : List ℕ) (x : Attribute × List ℕ) → attribute_at bytes ≡ Some x
    → length x.1 < length bytes
unfolding attribute_at
attribute_at_falls bytes x e =
    let b = some_bind (any_element bytes) (λ y. attribute_of y.0 >>? λ a. Some (a, y.1)) x e in
    let c = some_bind (attribute_of b.0.0) (λ a. Some (a, b.0.1)) x b.2 in
    subst (λ (y : Attribute × List ℕ). length y.1 < length bytes) (some_is (c.0, b.0.1) x c.2)
    (any_element_falls bytes b.0 b.1)

-- the element at the front is an attribute
pub attribute_passed : (bytes : List ℕ) (tag : ℕ) (contents text rest : List ℕ) (a : Attribute)
    → front_of bytes ≡ Some (tag, (contents, rest)) → text ≡ enc tag contents → attribute_of text ≡ Some a
    → attribute_at bytes ≡ Some (a, rest)
unfolding attribute_at
attribute_passed bytes tag contents text rest a front is reads = rw (front, ← is, reads) refl

-- the element at the front is none
pub no_attribute : (bytes : List ℕ) (tag : ℕ) (contents text rest : List ℕ)
    → front_of bytes ≡ Some (tag, (contents, rest)) → text ≡ enc tag contents → attribute_of text ≡ None
    → attribute_at bytes ≡ None
unfolding attribute_at
no_attribute bytes tag contents text rest front is reads = rw (front, ← is, reads) refl

-- no element stands at the front
pub no_element : (bytes : List ℕ) → front_of bytes ≡ None → attribute_at bytes ≡ None
unfolding attribute_at
no_element bytes front = rw front refl

-- ---- all of them

pub text_some : (a : Attribute) → 0 < length (attribute_text a)
unfolding enc
text_some a = omega arith

-- attributes one after the other are read exactly
pub attributes-whole : IsWhole set_contents (AllByRecursion IsAttribute) (listed attribute_at)
attributes-whole = listed-whole (λ a h. text_some a) attribute_at_falls attr-front

-- octets are those of one list of attributes at most
pub one_set : (these those : List Attribute) → IsAttributeSet these → IsAttributeSet those
    → set_contents these ≡ set_contents those → these ≡ those
one_set these those h k e =
    some_is these those
    (sym (attributes-whole.again these h.each) ∙ ap (listed attribute_at) e ∙ attributes-whole.again those k.each)

-- the attributes that were read ascend, and each has a type of its own
pub reads_set : (bytes : List ℕ) (these : List Attribute) → AreOctets bytes → listed attribute_at bytes ≡ Some these
    → IsSorted (slice_cmp nat_cmp) (map attribute_text these)
    → IsDistinct bytes_eq (map (λ attribute. attribute.kind) these)
    → Reads set_contents IsAttributeSet bytes (Some these)
reads_set bytes these octets is ascending distinct those =
    let t = attributes-whole.takes bytes these octets is in (
      λ same. subst (λ (all : List Attribute). IsAttributeSet all × (bytes ≡ set_contents all))
          (some_is these those same)
          (record { each = t.0; ascending = ascending; distinct = distinct }, t.1),
      λ h. sym is ∙ ap (listed attribute_at) h.1 ∙ attributes-whole.again those h.0.each,
    )

-- what was read is no such list
pub reads_none : (bytes : List ℕ)
    → ((these : List Attribute) → IsAttributeSet these → listed attribute_at bytes ≡ Some these → ⊥)
    → Reads set_contents IsAttributeSet bytes None
reads_none bytes never these = (
  λ same. absurd (none-some these same),
  λ h. absurd (never these h.0 (ap (listed attribute_at) h.1 ∙ attributes-whole.again these h.0.each)),
)

-- ---- whether they are attributes

pub attributes_are : (bytes : List ℕ) (result : Bool) → AreOctets bytes → result ≡ is_some (listed attribute_at bytes)
    → IsTrue result ↔ AreAttributes bytes
attributes_are bytes result octets is = by_case (listed attribute_at bytes) refl is
  where
    by_case : (read : Option (List Attribute)) → listed attribute_at bytes ≡ read → result ≡ is_some read
        → IsTrue result ↔ AreAttributes bytes
    by_case (Some these) reads is = let t = attributes-whole.takes bytes these octets reads in (λ _. (these, t.0, t.1), λ _. is)
    by_case None reads is = (
      λ wrong. absurd (false≢true (sym is ∙ wrong)),
      λ h. absurd (none-some h.0 (sym reads ∙ ap (listed attribute_at) h.2 ∙ attributes-whole.again h.0 h.1)),
    )
