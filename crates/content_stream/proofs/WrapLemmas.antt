-- The octets before an image.
use Rattle.std.proofs.Common.{◌≡◌, ⊎_elim, inl, inr, ℕ, ◌+◌, ◌-◌, ◌<◌, ◌≤◌, ◌^◌, List, ◌++◌, length, take, drop, refl, sym, ap, ◌∙◌, subst, arith, length-append, length-drop, take-append-drop, Result, Ok, Err}
use Rattle.std.proofs.lemmas.Int.Digits.{length-digits_of-le}
use Rattle.std.proofs.lemmas.List.{take_at, drop_at, take-take}
use Rattle.std.proofs.lemmas.Bool.{cases_eq, cases_lt, lt-ltb, le-ltb}
use Rattle.der_core.specs.declared.fault.DerFault.{DerFault}
use Rattle.der_core.specs.Element.{AreOctets, length_octets, enc}
use Rattle.der_core.specs.Head.{head_octets, IsHead, BeginsWith, head_at}
use Rattle.der_core.proofs.Element.{ok_is}
use Rattle.der_core.proofs.HeadLemmas.{head_again, head_takes}
use Rattle.package_attrs.specs.Image.{IsOctetString, IsImage}
use Rattle.content_stream.specs.Wraps.{IsWrap, IsWrapSize}

-- ---- heads

-- a head in front is read
pub head_read : (front : List ℕ) (tag size : ℕ) (begins : BeginsWith front tag size)
    → head_at front ≡ Ok (tag, (size, begins.rest))
head_read front tag size begins = rw begins.text (head_again tag size begins.rest begins.head)

-- one head stands in front
pub one_head : (front : List ℕ) (tag tag' size size' : ℕ) → BeginsWith front tag size
    → BeginsWith front tag' size' → (tag ≡ tag') × (size ≡ size')
one_head front tag tag' size size' begins begins' =
    let same : (tag, (size, begins.rest)) ≡ (tag', (size', begins'.rest)) =
    ok_is {E = DerFault} _ _ (sym (head_read front tag size begins) ∙ head_read front tag' size' begins') in
    (ap (λ x. x.0) same, ap (λ x. x.1.0) same)

string_tag : (n : ℕ) → n < 2 ^ 32 → IsHead 0x04 n
string_tag n fits = record { octet = omega arith; low_bits = omega arith; fits = fits }

-- a head has six octets at most
pub short_head : (n : ℕ) → n < 2 ^ 32 → length (head_octets 0x04 n) ≤ 6
unfolding length_octets
short_head n small = elim (cases_lt n 128) [
  | inl lt ↦ rw (lt-ltb n 128 lt) (omega arith)
  | inr le ↦ rw (le-ltb n 128 le) (omega (arith, length-digits_of-le 256 4 n (omega arith) (omega arith)))
]

-- ---- wraps

-- a wrap is a head in front
pub wrap_begins : (size : ℕ) (front : List ℕ) (n : ℕ) → IsWrap size front n → BeginsWith front 0x04 n
wrap_begins size front n is = record {
  head = string_tag n is.fits;
  rest = drop (length (head_octets 0x04 n)) front;
  text = sym (take-append-drop (length (head_octets 0x04 n)) front)
      ∙ ap (λ l. l ++ drop (length (head_octets 0x04 n)) front) is.begins;
}

pub begins_wrap : (size : ℕ) (front : List ℕ) (n : ℕ) → BeginsWith front 0x04 n
    → size ≡ length (head_octets 0x04 n) + n → IsWrap size front n
begins_wrap size front n has whole = record {
  fits = has.head.fits;
  whole = whole;
  begins = ap (λ l. take (length (head_octets 0x04 n)) l) has.text
      ∙ take_at (head_octets 0x04 n) has.rest (length (head_octets 0x04 n)) refl;
}

-- an OCTET STRING begins with its head
string_begins : (content contents : List ℕ) → IsOctetString content contents
    → BeginsWith content 0x04 (length contents)
unfolding enc
string_begins content contents is =
    record { head = string_tag (length contents) is.0.fits; rest = contents; text = is.1 }

string_whole : (content contents : List ℕ) → IsOctetString content contents
    → length content ≡ length (head_octets 0x04 (length contents)) + length contents
unfolding enc
string_whole content contents is =
    ap length is.1 ∙ length-append (head_octets 0x04 (length contents)) contents

-- the first six octets decide
front_wrap : (content : List ℕ) (n : ℕ) → IsWrap (length content) content n
    → IsWrap (length content) (take 6 content) n
front_wrap content n is = record {
  fits = is.fits;
  whole = is.whole;
  begins = take-take (length (head_octets 0x04 n)) 6 content (short_head n is.fits) ∙ is.begins;
}

whole_wrap : (content : List ℕ) (n : ℕ) → IsWrap (length content) (take 6 content) n
    → IsWrap (length content) content n
whole_wrap content n is = record {
  fits = is.fits;
  whole = is.whole;
  begins = sym (take-take (length (head_octets 0x04 n)) 6 content (short_head n is.fits)) ∙ is.begins;
}

-- what stands behind a wrap is the contents
wrap_string : (content : List ℕ) (n : ℕ) → IsWrap (length content) content n
    → IsOctetString content (drop (length (head_octets 0x04 n)) content)
unfolding enc wrap_begins
wrap_string content n is =
    let rest : List ℕ = drop (length (head_octets 0x04 n)) content in
    let size : length rest ≡ n = omega (arith, length-drop (length (head_octets 0x04 n)) content, is.whole) in
    let stands = (wrap_begins (length content) content n is).text in (
      record { octet = omega arith; low_bits = omega arith; fits = omega (arith, size, is.fits) },
      stands ∙ ap (λ m. head_octets 0x04 m ++ rest) (sym size),
    )

no_string : (content : List ℕ) → ((n : ℕ) → IsWrap (length content) (take 6 content) n → ⊥)
    → (contents : List ℕ) → IsOctetString content contents → ⊥
no_string content none contents is = none (length contents) (front_wrap content (length contents)
    (begins_wrap (length content) content (length contents) (string_begins content contents is) (string_whole content contents is)))

-- ---- images

-- what stands behind the octets of a wrap is an image
pub rest_is_image : (content : List ℕ) (skip : ℕ) → IsWrapSize (length content) (take 6 content) skip
    → IsImage content (drop skip content)
rest_is_image content skip is = ⊎_elim
    (λ w. inl (subst (λ (k : ℕ). IsOctetString content (drop k content)) (sym w.2) (wrap_string content w.0 (whole_wrap content w.0 w.1))))
    (λ none. inr (no_string content none.0, ap (λ k. drop k content) none.1)) is

-- octets are an OCTET STRING or none
has_image : (content : List ℕ) → AreOctets content → (r : Result (ℕ × (ℕ × List ℕ)) DerFault) → head_at content ≡ r
    → (image : List ℕ) × IsImage content image
has_image content octets (Ok x) e =
    let head = head_takes content x octets e in
    let begins : BeginsWith content x.0 x.1.0 = record { head = head.0; rest = x.1.1; text = head.1 } in
    let other : ((contents : List ℕ) → IsOctetString content contents
    → (x.0 ≡ 4) × (length content ≡ length (head_octets 0x04 x.1.0) + x.1.0)) =
    λ contents is.
    let same = one_head content 0x04 x.0 (length contents) x.1.0 (string_begins content contents is) begins in
    (sym same.0, subst (λ (n : ℕ). length content ≡ length (head_octets 0x04 n) + n) same.1 (string_whole content contents is)) in
    elim (cases_eq x.0 4) [
      | inr tag ↦ (content, inr (λ contents is. tag (other contents is).0, refl))
      | inl tag ↦ elim (cases_eq (length content) (length (head_octets 0x04 x.1.0) + x.1.0)) [
        | inr size ↦ (content, inr (λ contents is. size (other contents is).1, refl))
        | inl size ↦ (
          _,
          inl (wrap_string content x.1.0 (begins_wrap (length content) content x.1.0
              (subst (λ (t : ℕ). BeginsWith content t x.1.0) tag begins) size)),
        )
      ]
    ]
has_image content octets (Err fault) e = (
  content,
  inr (
    λ contents is. absurd (ok_is_no_err (sym (head_read content 4 (length contents) (string_begins content contents is)) ∙ e)),
    refl,
  ),
)
  where
    ok_is_no_err : {x : ℕ × (ℕ × List ℕ)} → Ok x ≡ Err fault → ⊥
    ok_is_no_err same = cc

-- so each has an image
pub image_of_each : (content : List ℕ) → AreOctets content → (image : List ℕ) × IsImage content image
image_of_each content octets = has_image content octets (head_at content) refl

-- and the only one
pub image_is_rest : (content image : List ℕ) (skip : ℕ) → IsWrapSize (length content) (take 6 content) skip
    → IsImage content image → image ≡ drop skip content
unfolding string_begins
image_is_rest content image skip is imaged = ⊎_elim
    (λ w. ⊎_elim
    (λ string.
    let begins = string_begins content image string in
    let same : w.0 ≡ length image =
    (one_head content 0x04 0x04 w.0 (length image) (wrap_begins (length content) content w.0 (whole_wrap content w.0 w.1)) begins).1 in
    sym (ap (λ k. drop k content) (w.2 ∙ ap (λ n. length (head_octets 0x04 n)) same)
    ∙ ap (λ l. drop (length (head_octets 0x04 (length image))) l) begins.text
    ∙ drop_at (head_octets 0x04 (length image)) image (length (head_octets 0x04 (length image))) refl))
    (λ other. absurd (other.0 _ (wrap_string content w.0 (whole_wrap content w.0 w.1))))
    imaged)
    (λ none. ⊎_elim (λ string. absurd (no_string content none.0 image string))
    (λ other. other.1 ∙ sym (ap (λ k. drop k content) none.1)) imaged)
    is

-- the image has the octets of the content that aren't its wrap's
pub image_size_is : (content_size skip : ℕ) (front content image : List ℕ) → IsWrapSize content_size front skip
    → length content ≡ content_size → take 6 content ≡ front → IsImage content image
    → content_size - skip ≡ length image
image_size_is content_size skip front content image is size begins imaged =
    let here : IsWrapSize (length content) (take 6 content) skip =
    subst (λ (n : ℕ). IsWrapSize n (take 6 content) skip) (sym size)
    (subst (λ (l : List ℕ). IsWrapSize content_size l skip) (sym begins) is) in
    omega (arith, ap length (image_is_rest content image skip here imaged), length-drop skip content, size)
