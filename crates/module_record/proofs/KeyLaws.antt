-- Keys and key records are read exactly.
use Rattle.std.proofs.Common.{◌≡◌, ℕ, ◌+◌, ◌^◌, ◌<◌, ◌≤◌, List, ◌++◌, length, Option, Some, None, refl, sym, ◌∙◌, ap}
use Rattle.std.proofs.Common.{subst, arith, eqb-true, eq-eqb, lt-ltb, get_or, ◌↔◌}
use Rattle.std.specs.Prelude.{◌==◌}
use native.Mathlib.Bridge.{le_prop}
use Rattle.std.proofs.lemmas.List.{length-append}
use Rattle.std.proofs.lemmas.Option.{none-some}
use Rattle.der_core.proofs.Numbers.{some_is}
use Rattle.der_core.specs.Reading.{number_of}
use Rattle.der_core.specs.Reads.{Answers}
use Rattle.der_core.specs.Element.{enc, length_octets}
use Rattle.der_core.specs.Number.{number_contents}
use Rattle.der_core.specs.Shapes.{IsFront, IsWhole, element}
use Rattle.der_core.proofs.Places.{length-enc}
use Rattle.der_core.proofs.Shapes.{is_tag, element-front, same-front, alone-whole, before-whole, mapped-whole}
use Rattle.der_core.proofs.Shapes.{tested-whole, number-whole, anything-whole, length-number-le, length-enc-le}
use Rattle.lms_verify.specs.declared.kind.LmsKind.{LmsKind}
use Rattle.lms_verify.specs.declared.kind.LmsKind.TheVariants.{H5, H10, H15, H20, H25}
use Rattle.lms_verify.specs.declared.kind.OtsKind.{OtsKind}
use Rattle.lms_verify.specs.declared.kind.OtsKind.TheVariants.{W1, W2, W4, W8}
use Rattle.lms_verify.specs.Kinds.{lms_number, ots_number, height}
use Rattle.lms_sign.specs.declared.key.SignKey.{SignKey}
use Rattle.lms_sign.specs.PublicKeys.{IsSignKey}
use Rattle.module_record.specs.KeyRecord.{key_fields_text, key_text, key_record_text, BeginsWithKeyRecord}
use Rattle.module_record.specs.Reading.{KeyParts, view, valued, sized, tree_kind_of, ots_kind_of, fields_of, key_at}
use Rattle.module_record.specs.Reading.{record_of, key_record_at}
use Rattle.module_record.proofs.KindLaws.{lms_small, ots_small, tree_kind_of-kind, tree_kind_of-some}
use Rattle.module_record.proofs.KindLaws.{ots_kind_of-kind, ots_kind_of-some, valued-whole}

-- ---- parts

abbrev pub fields_text : KeyParts → List ℕ
fields_text p =
    enc 0x02 (number_contents (lms_number p.kind)) ++ (enc 0x02 (number_contents (ots_number p.ots))
    ++ (enc 0x04 p.seed ++ enc 0x04 p.id))

abbrev pub AreKeyFields : KeyParts → Type 0
AreKeyFields p = (height p.kind ≤ 10) × (length p.seed ≡ 32) × (length p.id ≡ 16)

abbrev IsLow : LmsKind → Type 0
IsLow kind = height kind ≤ 10

tree-front : IsFront (λ kind. enc 0x02 (number_contents (lms_number kind))) IsLow (element 0x02
    (valued tree_kind_of number_of))
tree-front =
    element-front 2 (is_tag 2 refl)
    (λ kind low. omega (arith, length-number-le (lms_number kind) (omega (arith, lms_small kind))))
    (valued-whole tree_kind_of lms_number tree_kind_of-some
    (λ kind low. (omega (arith, lms_small kind), tree_kind_of-kind kind low)))

ots-front : IsFront (λ ots. enc 0x02 (number_contents (ots_number ots))) (λ _. Unit {0}) (element 0x02
    (valued ots_kind_of number_of))
ots-front =
    element-front 2 (is_tag 2 refl)
    (λ ots _. omega (arith, length-number-le (ots_number ots) (omega (arith, ots_small ots))))
    (valued-whole ots_kind_of ots_number (λ n ots e. (tt, ots_kind_of-some n ots e))
    (λ ots any. (omega (arith, ots_small ots), ots_kind_of-kind ots)))

pub sized-front : (size : ℕ) → size < 2 ^ 32
    → IsFront (λ (octets : List ℕ). enc 0x04 octets) (λ octets. length octets ≡ size) (element 0x04 (sized size))
sized-front size small =
    same-front (λ octets h. (eqb-true (length octets) size h.1, refl))
    (λ octets h. (tt, eq-eqb (length octets) size h))
    (element-front 4 (is_tag 4 refl) (λ octets h. omega (arith, small, eqb-true (length octets) size h.1))
    (tested-whole (λ octets. length octets == size) anything-whole))

-- ---- keys

fields-whole : IsWhole fields_text AreKeyFields fields_of
unfolding fields_of
fields-whole =
    mapped-whole (λ x. record { kind = x.0; ots = x.1.0; seed = x.1.1.0; id = x.1.1.1 })
    (λ x h. ((h.0, h.1.1.0, h.1.1.1), refl))
    (λ p h. ((p.kind, (p.ots, (p.seed, p.id))), (h.0, (tt, (h.1, h.2))), refl))
    (before-whole tree-front (before-whole ots-front (before-whole (sized-front 32 (omega arith))
    (alone-whole (sized-front 16 (omega arith))))))

short_length : (n : ℕ) → n < 128 → length (length_octets n) ≡ 1
unfolding length_octets
short_length n short = rw (lt-ltb n 128 short) refl

-- an element of few octets
short_enc : (tag : ℕ) (contents : List ℕ) → length contents < 128 → length (enc tag contents) ≡ length contents + 2
short_enc tag contents short = omega (arith, length-enc tag contents, short_length (length contents) short)

lms_octet : (kind : LmsKind) → length (number_contents (lms_number kind)) ≡ 1
unfolding number_contents
lms_octet H5 = refl
lms_octet H10 = refl
lms_octet H15 = refl
lms_octet H20 = refl
lms_octet H25 = refl

ots_octet : (ots : OtsKind) → length (number_contents (ots_number ots)) ≡ 1
unfolding number_contents
ots_octet W1 = refl
ots_octet W2 = refl
ots_octet W4 = refl
ots_octet W8 = refl

fields_size : (p : KeyParts) → AreKeyFields p → length (fields_text p) ≡ 58
fields_size p h =
    let kind-text = enc 0x02 (number_contents (lms_number p.kind)) in
    let ots-text = enc 0x02 (number_contents (ots_number p.ots)) in
    let kind-size : length kind-text ≡ 3 =
    omega (
      arith,
      lms_octet p.kind,
      short_enc 2 (number_contents (lms_number p.kind)) (omega
          (arith, lms_octet p.kind)),
    ) in
    let ots-size : length ots-text ≡ 3 =
    omega (arith, ots_octet p.ots, short_enc 2 (number_contents (ots_number p.ots)) (omega (arith, ots_octet p.ots))) in
    let seed-size : length (enc 0x04 p.seed) ≡ 34 = omega (arith, h.1, short_enc 4 p.seed (omega (arith, h.1))) in
    let id-size : length (enc 0x04 p.id) ≡ 18 = omega (arith, h.2, short_enc 4 p.id (omega (arith, h.2))) in
    omega (
      arith,
      kind-size,
      ots-size,
      seed-size,
      id-size,
      length-append kind-text (ots-text ++ (enc 0x04 p.seed ++ enc 0x04 p.id)),
      length-append ots-text (enc 0x04 p.seed ++ enc 0x04 p.id),
      length-append (enc 0x04 p.seed) (enc 0x04 p.id),
    )

abbrev pub key_parts_text : KeyParts → List ℕ
key_parts_text p = enc 0x30 (fields_text p)

parts_size : (p : KeyParts) → AreKeyFields p → length (key_parts_text p) ≡ 60
parts_size p h = omega (arith, fields_size p h, short_enc 48 (fields_text p) (omega (arith, fields_size p h)))

pub key-front : IsFront key_parts_text AreKeyFields key_at
unfolding key_at
key-front = element-front 48 (is_tag 48 refl) (λ p h. omega (arith, fields_size p h)) fields-whole

-- ---- key records

abbrev contents_text : KeyParts → List ℕ
contents_text p = enc 0x02 (number_contents 2) ++ key_parts_text p

contents_size : (p : KeyParts) → AreKeyFields p → length (contents_text p) ≡ 63
contents_size p h =
    let octet : length (number_contents 2) ≡ 1 = ots_octet W2 in
    omega (
      arith,
      parts_size p h,
      length-append (enc 0x02 (number_contents 2)) (key_parts_text p),
      octet,
      short_enc 2
          (number_contents 2) (omega (arith, octet)),
    )

record-whole : IsWhole contents_text AreKeyFields record_of
unfolding record_of
record-whole =
    mapped-whole (λ x. x.1)
    (λ x h. (h.1, ap (λ (n : ℕ). enc 0x02 (number_contents n) ++ key_parts_text x.1) (eqb-true x.0 2 h.0.1)))
    (λ p h. ((2, p), ((omega arith, refl), h), refl))
    (before-whole (element-front 2 (is_tag 2 refl) (λ n h. omega (arith, length-number-le n h.0)) (tested-whole
    (λ n. n == 2) number-whole))
    (alone-whole key-front))

abbrev pub record_text : KeyParts → List ℕ
record_text p = enc 0x30 (contents_text p)

pub record-front : IsFront record_text AreKeyFields key_record_at
unfolding key_record_at
record-front = element-front 48 (is_tag 48 refl) (λ p h. omega (arith, contents_size p h)) record-whole

-- ---- keys and their parts

made : (p : KeyParts) → height p.kind ≤ 10 → SignKey
made p low = record { seed = p.seed; id = p.id; kind = p.kind; ots = p.ots; low = low }

-- keys of the same parts are the same
pub same_key : (k l : SignKey) → view k ≡ view l → k ≡ l
unfolding made
same_key k l same =
    subst (λ (p : KeyParts). (low : height p.kind ≤ 10) → k ≡ made p low) same
    (λ low. ap (made (view k)) (prop (view k) k.low low)) l.low
  where
    prop : (p : KeyParts) → IsProp (height p.kind ≤ 10)
    prop p = hlevel le_prop

pub key_fields : (key : SignKey) → IsSignKey key → AreKeyFields (view key)
key_fields key h = (h.low, h.seed, h.id)

pub key_again : (key : SignKey) (rest : List ℕ) → IsSignKey key
    → key_record_at (key_record_text key ++ rest) ≡ Some (view key, rest)
key_again key rest h = record-front.again (view key) rest (key_fields key h)

pub key_size : (key : SignKey) → IsSignKey key → length (key_record_text key) ≡ 65
key_size key h =
    let size = contents_size (view key) (key_fields key h) in
    omega (arith, size, short_enc 48 (contents_text (view key)) (omega (arith, size)))

-- a key's fields fit an element
pub fields_fit : (key : SignKey) → length key.seed ≡ 32 → length key.id ≡ 16
    → length (key_fields_text key) < 2 ^ 32
fields_fit key seed id = omega (arith, fields_size (view key) (key.low, seed, id))

-- and so does what a record holds
pub contents_fit : (key : SignKey) → length (key_text key) ≡ 60
    → length (enc 0x02 (number_contents 2) ++ key_text key) < 2 ^ 32
contents_fit key size =
    omega (
      arith,
      size,
      length-append (enc 0x02 (number_contents 2)) (key_text key),
      length-enc-le 2 (number_contents 2)
          (omega (arith, length-number-le 2 (omega arith))),
      length-number-le 2 (omega arith),
    )

pub key_text_size : (key : SignKey) → length key.seed ≡ 32 → length key.id ≡ 16 → length (key_text key) ≡ 60
key_text_size key seed id = parts_size (view key) (key.low, seed, id)

-- what a reader answers that goes by the shapes
pub record_reads : (bytes after : List ℕ) (result : Option SignKey) → ((i : ℕ) → get_or bytes i 0 < 256)
    → Answers (λ key. (view key, after)) result (key_record_at bytes)
    → (key : SignKey) → (result ≡ Some key) ↔ BeginsWithKeyRecord bytes key
record_reads bytes after (Some x) octets e key = (
  λ is.
      let t = record-front.takes bytes (view x, after) octets e in
      subst (BeginsWithKeyRecord bytes) (some_is x key is)
      (record { seed = t.0.1; id = t.0.2; low = t.0.0 }, after, t.1),
  λ h.
      let both = some_is _ _ (sym e ∙ ap key_record_at h.2 ∙ key_again key h.1 h.0) in
      ap Some (same_key x key (ap (λ x. x.0) both)),
)
record_reads bytes after None octets e key = (
  λ is. absurd (none-some key is),
  λ h. absurd (none-some _ (sym e ∙ ap key_record_at h.2 ∙ key_again key h.1 h.0)),
)
