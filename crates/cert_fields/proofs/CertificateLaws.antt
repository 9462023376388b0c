-- A certificate is read exactly.
use Rattle.std.proofs.Common.{◌≡◌, ℕ, zero, suc, codes, ◌<◌, ◌≤◌, ◌^◌, true, false, eqb, List, ◌++◌, length, length-append, Option, Some, None, refl, sym, ap, ◌∙◌, arith}
use Rattle.std.specs.Prelude.{IsTrue, IfSome, IsSome, nat_le}
use Rattle.std.specs.Option.{option_map_or}
use Rattle.std.proofs.lemmas.Bool.{eqb-true, eq-eqb, leb-true, le-leb}
use Rattle.std.proofs.lemmas.List.{append_cancel_right}
use Rattle.der_core.specs.BitString.{bits_contents, IsBits}
use Rattle.der_core.specs.Element.{enc, HasRoom, IsTagged}
use Rattle.der_core.specs.Number.{number_contents}
use Rattle.der_core.specs.Shapes.{Front, text_if, text_unless, IsFront, IsWhole, IsOneElement, begins_with, alone, before, mapped}
use Rattle.der_core.specs.Time.{IsTime, time_text, last_digits, utc_text, generalized_text, form_tag, form_contents}
use Rattle.der_core.specs.declared.time_value.TimeForm.{TimeForm}
use Rattle.der_core.specs.declared.time_value.TimeForm.TheVariants.{Utc, Generalized}
use Rattle.der_core.specs.declared.time_value.Time.{Time}
use Rattle.der_core.proofs.Components.{raw-front, whole_element-front, defaulted-whole}
use Rattle.der_core.proofs.Leaves.{int_octets-whole, bits-whole}
use Rattle.der_core.proofs.Places.{length-enc}
use Rattle.der_core.proofs.Shapes.{is_tag, element-front, sized-element-front, same-front, alone-whole, before-whole}
use Rattle.der_core.proofs.Shapes.{optional-whole, maybe_before-whole, mapped-whole, tested-whole, number-whole}
use Rattle.der_core.proofs.Shapes.{any_element-front, enc-begins, length-enc-le, length-number-le}
use Rattle.der_core.proofs.Numbers.{some_is}
use Rattle.der_core.proofs.TimeValues.{time-front}
use Rattle.cert_fields.specs.Certificate.{BitString, SignedPart, Certificate, is_v1, version_text, validity_text, bits_text}
use Rattle.cert_fields.specs.Certificate.{key_text, signed_contents, signed_text, certificate_contents}
use Rattle.cert_fields.specs.Certificate.{certificate_text, IsSerialNumber, IsSignedPart, IsCertificate}
use Rattle.cert_fields.specs.View.{signed_view}
use Rattle.cert_fields.specs.declared.certificate.Cert.{Cert}
use Rattle.cert_fields.specs.CertificateReading.{sequence_at, version_at, serial_at, validity_at, bits_at, key_at}
use Rattle.cert_fields.specs.CertificateReading.{OptionalParts, extensions_of, maybe_extensions_of, subject_parts_of, optional_parts_of, Unversioned}
use Rattle.cert_fields.specs.CertificateReading.{unversioned_of, versioned_of, signed_part, has_third, signed_part_of}
use Rattle.cert_fields.specs.CertificateReading.{signed_at, certificate_value, certificate_fields_of, certificate_of, HoldsSigned}

-- a value at the front, with whatever follows
pub and_rest : {V : Type 0} {text : V → List ℕ} {IsValid : V → Type 0} {read : Front V} → IsFront text IsValid read
    → IsWhole (λ (x : V × List ℕ). text x.0 ++ x.1) (λ (x : V × List ℕ). IsValid x.0) read
and_rest laws = record {
  takes = λ bytes x octets e. laws.takes bytes x octets e;
  again = λ x h. laws.again x.0 x.1 h;
}

-- ---- leaves

pub sequence-front : IsFront (λ (octets : List ℕ). octets) (IsTagged 0x30) sequence_at
sequence-front = whole_element-front 0x30

version_fits : (v : ℕ) → v < 2 ^ 128 → length (enc 0x02 (number_contents v)) < 2 ^ 32
version_fits v small =
    let few = length-number-le v small in
    omega (arith, few, length-enc-le 0x02 (number_contents v) (omega (arith, few)))

pub version-front : IsFront version_text (λ version. version ≤ 2) version_at
unfolding version_at
version-front = same-front (λ v h. (leb-true v 2 h.0.1, refl))
    (λ v h. ((omega (arith, h), le-leb v 2 h), version_fits v (omega (arith, h))))
    (sized-element-front 0xA0 (is_tag 0xA0 refl) (tested-whole (λ version. nat_le version 2)
    (alone-whole (element-front 0x02 (is_tag 0x02 refl)
    (λ n h. omega (arith, length-number-le n h)) number-whole))))

pub serial-front : IsFront (enc 0x02) IsSerialNumber serial_at
unfolding serial_at
serial-front = same-front (λ s h. (record { integer = h.0; most = leb-true (length s) 20 h.1 }, refl))
    (λ s h. (h.integer, le-leb (length s) 20 h.most))
    (element-front 0x02 (is_tag 0x02 refl) (λ s h. omega (arith, leb-true (length s) 20 h.1))
    (tested-whole (λ s. nat_le (length s) 20) int_octets-whole))

-- a time of either form has 15 or 17 octets
length-digits : (count number : ℕ) → length (last_digits count number) ≡ count
length-digits zero number = refl
length-digits (suc count) number = ap suc (length-digits count number)

form_fits : (form : TimeForm) (moment : ℕ) → length (form_contents form moment) ≤ 15
unfolding utc_text generalized_text
form_fits Utc moment =
    omega (arith, length-append (last_digits 12 moment) (codes "Z"), length-digits 12 moment)
form_fits Generalized moment =
    omega (arith, length-append (last_digits 14 moment) (codes "Z"), length-digits 14 moment)

time_fits : (time : Time) → length (time_text time) ≤ 21
time_fits time =
    let few = form_fits time.form time.moment in
    omega (arith, few, length-enc-le (form_tag time.form) (form_contents time.form time.moment) (omega (arith, few)))

pub validity-front : IsFront validity_text (λ ends. IsTime ends.0 × IsTime ends.1) validity_at
unfolding validity_at
validity-front = element-front 0x30 (is_tag 0x30 refl)
    (λ ends h. omega (arith, time_fits ends.0, time_fits ends.1, length-append (time_text ends.0) (time_text ends.1)))
    (before-whole time-front (alone-whole time-front))

pub bits-front : IsFront bits_text (λ bits. IsBits bits × HasRoom (bits_contents bits)) bits_at
unfolding bits_at
bits-front = sized-element-front 0x03 (is_tag 0x03 refl) bits-whole

-- an algorithm and a key that a SEQUENCE has room for
abbrev pub IsKey : List ℕ × BitString → Type 0
IsKey key = IsTagged 0x30 key.0 × (IsBits key.1 × HasRoom (key.0 ++ bits_text key.1))

pub key-front : IsFront key_text IsKey key_at
unfolding key_at
key-front = same-front (λ key h. ((h.0.0, (h.0.1.0, h.1)), refl))
    (λ key h. ((h.0, (h.1.0, bits_room key h.1.1)), h.1.1))
    (sized-element-front 0x30 (is_tag 0x30 refl) (before-whole sequence-front (alone-whole bits-front)))
  where
    bits_room : (key : List ℕ × BitString) → HasRoom (key.0 ++ bits_text key.1) → HasRoom (bits_contents key.1)
    bits_room key room = omega (arith, room, length-append key.0 (bits_text key.1), length-enc 0x03 (bits_contents key.1))

-- ---- optional parts

abbrev pub AreOptional : OptionalParts → Type 0
AreOptional o = IfSome o.0 HasRoom × (IfSome o.1.0 HasRoom × IfSome o.1.1 (λ e. IsOneElement e × HasRoom e))

abbrev pub optional_text : OptionalParts → List ℕ
optional_text o = text_if (enc 0x81) o.0 ++ (text_if (enc 0x82) o.1.0 ++ text_if (enc 0xA3) o.1.1)

extensions-whole : IsWhole (enc 0xA3) (λ e. IsOneElement e × HasRoom e) extensions_of
unfolding extensions_of
extensions-whole = alone-whole (sized-element-front 0xA3 (is_tag 0xA3 refl) (alone-whole any_element-front))

enc_some : (tag : ℕ) (contents : List ℕ) → 0 < length (enc tag contents)
enc_some tag contents = omega (arith, length-enc tag contents)

no_tag : (tag other : ℕ) (o : Option (List ℕ)) → eqb other tag ≡ false → begins_with tag (text_if (enc other) o) ≡ false
no_tag tag other None e = refl
no_tag tag other (Some contents) e = rw ((enc-begins other contents).1) e

other_tags : (unique extensions : Option (List ℕ))
    → begins_with 0x81 (text_if (enc 0x82) unique ++ text_if (enc 0xA3) extensions) ≡ false
other_tags None extensions = no_tag 0x81 0xA3 extensions refl
other_tags (Some contents) extensions = rw ((enc-begins 0x82 contents).1) refl

pub optional-parts : IsWhole optional_text AreOptional optional_parts_of
unfolding optional_parts_of subject_parts_of maybe_extensions_of
optional-parts = maybe_before-whole 0x81 (λ v h. enc-begins 0x81 v)
    (λ w h. other_tags w.0 w.1)
    (raw-front 0x81 (is_tag 0x81 refl))
    (maybe_before-whole 0x82 (λ v h. enc-begins 0x82 v) (λ w h. no_tag 0x82 0xA3 w refl)
    (raw-front 0x82 (is_tag 0x82 refl))
    (optional-whole (λ e h. enc_some 0xA3 e) extensions-whole))

-- ---- the signed part

abbrev pub IsUnversioned : Unversioned → Type 0
IsUnversioned u = IsSerialNumber u.0 × (IsTagged 0x30 u.1.0 × (IsTagged 0x30 u.1.1.0
    × ((IsTime u.1.1.1.0.0 × IsTime u.1.1.1.0.1) × (IsTagged 0x30 u.1.1.1.1.0
    × (IsKey u.1.1.1.1.1.0 × AreOptional u.1.1.1.1.1.1)))))

abbrev pub unversioned_text : Unversioned → List ℕ
unversioned_text u = enc 0x02 u.0 ++ (u.1.0 ++ (u.1.1.0 ++ (validity_text u.1.1.1.0 ++ (u.1.1.1.1.0
    ++ (key_text u.1.1.1.1.1.0 ++ optional_text u.1.1.1.1.1.1)))))

unversioned-whole : IsWhole unversioned_text IsUnversioned unversioned_of
unfolding unversioned_of
unversioned-whole = before-whole serial-front (before-whole sequence-front (before-whole sequence-front
    (before-whole validity-front (before-whole sequence-front (before-whole key-front optional-parts)))))

versioned-whole : IsWhole (λ (x : ℕ × Unversioned). text_unless is_v1 version_text x.0 ++ unversioned_text x.1)
    (λ (x : ℕ × Unversioned). (x.0 ≤ 2) × IsUnversioned x.1)
    versioned_of
unfolding versioned_of
versioned-whole = defaulted-whole 0xA0 is_v1 0 (λ v e. eqb-true v 0 e) refl
    (λ v h. enc-begins 0xA0 (enc 0x02 (number_contents v)))
    (λ w h. rw ((enc-begins 0x02 w.0).1) refl)
    (omega arith) version-front unversioned-whole

-- the signed part without the room that a SEQUENCE around it has
pub record IsInner (s : SignedPart) : Type 0 where
  pub version : s.version ≤ 2
  pub serial : IsSerialNumber s.serial
  pub algorithm : IsTagged 0x30 s.algorithm
  pub issuer : IsTagged 0x30 s.issuer
  pub subject : IsTagged 0x30 s.subject
  pub from : IsTime s.from
  pub to : IsTime s.to
  pub key : IsKey (s.key_algorithm, s.key)
  pub optional : AreOptional (s.issuer_unique, (s.subject_unique, s.extensions))

inner-whole : IsWhole signed_contents IsInner
    (mapped signed_part versioned_of)
inner-whole = mapped-whole signed_part
    (λ x h. (
      record {
        version = h.0;
        serial = h.1.0;
        algorithm = h.1.1.0;
        issuer = h.1.1.1.0;
        subject = h.1.1.1.1.1.0;
        from = h.1.1.1.1.0.0;
        to = h.1.1.1.1.0.1;
        key = h.1.1.1.1.1.1.0;
        optional = h.1.1.1.1.1.1.1;
      },
      refl,
    ))
    (λ s h. (
      (
        s.version,
        (
          s.serial,
          (
            s.algorithm,
            (
              s.issuer,
              (
                (s.from, s.to),
                (
                  s.subject,
                  ((s.key_algorithm, s.key), (s.issuer_unique, (s.subject_unique, s.extensions))),
                ),
              ),
            ),
          ),
        ),
      ),
      (h.version, (h.serial, (h.algorithm, (h.issuer, ((h.from, h.to), (h.subject, (h.key, h.optional))))))),
      refl,
    ))
    versioned-whole

third_says : (s : SignedPart) → IsTrue (has_third s) → IsSome s.extensions → s.version ≡ 2
third_says s = elim s.extensions as (λ o. IsTrue (option_map_or (λ _. eqb s.version 2) o true) → IsSome o → s.version ≡ 2) [
  | None ↦ λ is some. absurd cc
  | Some e ↦ λ is some. eqb-true s.version 2 is
]

third_tells : (s : SignedPart) → (IsSome s.extensions → s.version ≡ 2) → IsTrue (has_third s)
third_tells s = elim s.extensions as (λ o. (IsSome o → s.version ≡ 2) → IsTrue (option_map_or (λ _. eqb s.version 2) o true)) [
  | None ↦ λ third. refl
  | Some e ↦ λ third. eq-eqb s.version 2 (third refl)
]

some_both : (o : Option (List ℕ)) → IfSome o IsOneElement → IfSome o HasRoom → IfSome o (λ e. IsOneElement e × HasRoom e)
some_both None one room = tt
some_both (Some e) one room = (one, room)

some_one : (o : Option (List ℕ)) → IfSome o (λ e. IsOneElement e × HasRoom e) → IfSome o IsOneElement
some_one None both = tt
some_one (Some e) both = both.0

some_room : (o : Option (List ℕ)) → IfSome o (λ e. IsOneElement e × HasRoom e) → IfSome o HasRoom
some_room None both = tt
some_room (Some e) both = both.1

signed-front : IsFront signed_text IsSignedPart signed_at
unfolding signed_at signed_part_of
signed-front = same-front (λ s h. (
  record {
    version = h.0.0.version;
    serial = h.0.0.serial;
    algorithm = h.0.0.algorithm;
    issuer = h.0.0.issuer;
    subject = h.0.0.subject;
    from = h.0.0.from;
    to = h.0.0.to;
    key_algorithm = h.0.0.key.0;
    key = h.0.0.key.1.0;
    key_fits = h.0.0.key.1.1;
    issuer_unique = h.0.0.optional.0;
    subject_unique = h.0.0.optional.1.0;
    extensions = some_one s.extensions h.0.0.optional.1.1;
    extensions_fit = some_room s.extensions h.0.0.optional.1.1;
    third = third_says s h.0.1;
    fits = h.1;
  },
  refl,
))
    (λ s h. (
      (
        record {
          version = h.version;
          serial = h.serial;
          algorithm = h.algorithm;
          issuer = h.issuer;
          subject = h.subject;
          from = h.from;
          to = h.to;
          key = (h.key_algorithm, (h.key, h.key_fits));
          optional = (h.issuer_unique, (h.subject_unique, some_both s.extensions h.extensions h.extensions_fit));
        },
        third_tells s h.third,
      ),
      h.fits,
    ))
    (sized-element-front 0x30 (is_tag 0x30 refl) (tested-whole has_third inner-whole))

-- ---- the certificate

abbrev pub Outer : Type 0
Outer = SignedPart × (List ℕ × BitString)

outer-whole : IsWhole (λ (x : Outer). signed_text x.0 ++ (x.1.0 ++ bits_text x.1.1))
    (λ (x : Outer). IsSignedPart x.0 × (IsTagged 0x30 x.1.0 × (IsBits x.1.1 × HasRoom (bits_contents x.1.1))))
    (before signed_at (before sequence_at (alone bits_at)))
outer-whole = before-whole signed-front (before-whole sequence-front (alone-whole bits-front))

bits_room : (signed algorithm : List ℕ) (bits : BitString) → HasRoom (signed ++ (algorithm ++ bits_text bits))
    → HasRoom (bits_contents bits)
bits_room signed algorithm bits room = omega (
  arith,
  room,
  length-append signed (algorithm ++ bits_text bits),
  length-append algorithm (bits_text bits),
  length-enc 0x03 (bits_contents bits),
)

certificate-inner : IsWhole certificate_contents
    (λ (c : Certificate). IsSignedPart c.signed × (IsTagged 0x30 c.algorithm × (IsBits c.signature × HasRoom (bits_contents c.signature))))
    certificate_fields_of
unfolding certificate_fields_of
certificate-inner = mapped-whole certificate_value (λ x h. (h, refl))
    (λ c h. ((c.signed, (c.algorithm, c.signature)), h, refl)) outer-whole

pub certificate-whole : IsWhole certificate_text IsCertificate certificate_of
unfolding certificate_of
certificate-whole = alone-whole (same-front
    (λ c h. (record { signed = h.0.0; algorithm = h.0.1.0; signature = h.0.1.1.0; fits = h.1 }, refl))
    (λ c h. ((h.signed, (h.algorithm, (h.signature, bits_room (signed_text c.signed) c.algorithm c.signature h.fits))), h.fits))
    (sized-element-front 0x30 (is_tag 0x30 refl) certificate-inner))

-- two certificates never share a text
pub one_text : (c d : Certificate) → IsCertificate c → IsCertificate d → certificate_text c ≡ certificate_text d → c ≡ d
one_text c d h k e =
    some_is c d (sym (certificate-whole.again c h) ∙ ap certificate_of e ∙ certificate-whole.again d k)

-- the octets of a signed part that was read are its text
pub tbs_is : (tbs : List ℕ) (signed : SignedPart) (octets : List ℕ) → HoldsSigned tbs signed octets → tbs ≡ signed_text signed
tbs_is tbs signed octets holds =
    append_cancel_right tbs (signed_text signed) holds.rest
    (holds.text ∙ (signed-front.takes octets (signed, holds.rest) holds.are holds.reads).1)

pub tbs_some : (result : Option Cert) → IfSome result (λ c. (contents : List ℕ) × HoldsSigned c.tbs.now (signed_view c.signed) contents)
    → IfSome result (λ c. c.tbs.now ≡ signed_text (signed_view c.signed))
tbs_some None holds = tt
tbs_some (Some c) holds = tbs_is c.tbs.now (signed_view c.signed) holds.0 holds.1
