-- From a reading to a text.
use Rattle.std.proofs.Common.{◌≡◌, ◌<◌, ◌^◌, ◌++◌, arith, ℕ, List, length, Option, Some, None, refl, sym}
use Rattle.std.proofs.Common.{ap, subst, ◌∙◌, inl, inr}
use Rattle.std.proofs.lemmas.Option.{none-some}
use Rattle.der_core.specs.Element.{enc}
use Rattle.der_core.specs.Reads.{Answers}
use Rattle.der_core.specs.Shapes.{Front, Whole, IsFront, IsWhole}
use Rattle.der_core.proofs.Digits.{AreOctets}
use Rattle.der_core.proofs.Numbers.{some_is}
use Rattle.der_core.proofs.Shapes.{is_tag, alone-whole, sized-element-front, anything-whole}
use Rattle.package_attrs.specs.Image.{IsOctetString, IsImage}
use Rattle.package_attrs.specs.Reading.{octet_string_of}

-- ---- one OCTET STRING

pub octet_string-whole : IsWhole (enc 0x04) (λ contents. Unit {0} × (length contents < 2 ^ 32)) octet_string_of
unfolding octet_string_of
octet_string-whole = alone-whole (sized-element-front 0x04 (is_tag 0x04 refl) anything-whole)

is_octet_string : (octets contents : List ℕ) → AreOctets octets → octet_string_of octets ≡ Some contents
    → IsOctetString octets contents
is_octet_string octets contents are is =
    let t = octet_string-whole.takes octets contents are is in
    (record { octet = omega arith; low_bits = omega arith; fits = t.0.1 }, t.1)

isnt_octet_string : (octets contents : List ℕ) → octet_string_of octets ≡ None → IsOctetString octets contents → ⊥
isnt_octet_string octets contents none h =
    none-some contents (sym none ∙ ap octet_string_of h.1 ∙ octet_string-whole.again contents (tt, h.0.fits))

pub unwrapped : (octets contents : List ℕ) → AreOctets octets → octet_string_of octets ≡ Some contents
    → IsImage octets contents
unwrapped octets contents are is = inl (is_octet_string octets contents are is)

pub kept : (octets : List ℕ) → octet_string_of octets ≡ None → IsImage octets octets
kept octets none = inr (λ contents h. isnt_octet_string octets contents none h, refl)

-- ---- a field at a front

-- a value, and whatever follows
pub and_rest : {V : Type 0} {text : V → List ℕ} {IsValid : V → Type 0} {read : Front V} → IsFront text IsValid read
    → IsWhole (λ x. text x.0 ++ x.1) (λ x. IsValid x.0) read
and_rest laws = record {
  takes = λ bytes x octets e. laws.takes bytes x octets e;
  again = λ x h. laws.again x.0 x.1 h;
}

-- ---- what an answer is

pub answers_some : {X Y : Type 0} (view : X → Y) (result : Option X) (answer : Option Y) (x : X)
    → Answers view result answer → result ≡ Some x → answer ≡ Some (view x)
answers_some {X} {Y} view result answer x answers is = subst (λ (r : Option X). Answers view r answer) is answers

pub answers_none : {X Y : Type 0} (view : X → Y) (result : Option X) (answer : Option Y)
    → Answers view result answer → result ≡ None → answer ≡ None
answers_none {X} {Y} view result answer answers is = subst (λ (r : Option X). Answers view r answer) is answers

-- ---- one value for each text

pub one_text : {V : Type 0} {text : V → List ℕ} {IsValid : V → Type 0} {read : Whole V} → IsWhole text IsValid read
    → (v w : V) → IsValid v → IsValid w → text v ≡ text w → v ≡ w
one_text {V} {text} {IsValid} {read} laws v w valid valid' same =
    some_is v w (sym (laws.again v valid) ∙ ap read same ∙ laws.again w valid')

pub one_image : (content these those : List ℕ) → IsImage content these → IsImage content those → these ≡ those
one_image content these those (inl a) (inl b) =
    one_text octet_string-whole these those (tt, a.0.fits) (tt, b.0.fits) (sym a.1 ∙ b.1)
one_image content these those (inl a) (inr b) = absurd (b.0 these a)
one_image content these those (inr a) (inl b) = absurd (a.0 those b)
one_image content these those (inr a) (inr b) = a.1 ∙ sym b.1
