-- Certificates and what a signer says are read exactly.
use Rattle.std.proofs.Common.{◌≡◌, ◌≢◌, ℕ, ◌<◌, ◌^◌, true, false, eqb, List, [], ◌∷◌, ◌++◌, length}
use Rattle.std.proofs.Common.{Option, Some, None, refl, sym, ap, subst, ◌∙◌, arith, inl, inr, ◌⊎◌}
use Rattle.std.specs.Prelude.{IsTrue, IfSome, is_some}
use Rattle.std.specs.List.{AllByRecursion}
use Rattle.std.proofs.lemmas.List.{length-append}
use Rattle.std.proofs.lemmas.Option.{none-some}
use Rattle.std.proofs.lemmas.Bool.{cases_Bool, eqb-true, eqb-false, ne_eqb}
use Rattle.der_core.specs.Element.{enc, HasRoom, IsElement, IsTagged}
use Rattle.der_core.specs.Integer.{IsInteger}
use Rattle.der_core.specs.Number.{number_contents}
use Rattle.der_core.specs.Reading.{◌>>?◌, front_of}
use Rattle.der_core.specs.Shapes.{IsFront, IsWhole, text_if, element, mapped, anything, listed}
use Rattle.der_core.proofs.AttributeLaws.{any_element_falls}
use Rattle.der_core.proofs.Components.{raw-front, whole_element-front, tagged-begins}
use Rattle.der_core.proofs.Digits.{AreOctets, AreOctets-left}
use Rattle.der_core.proofs.Element.{element_takes}
use Rattle.der_core.proofs.Fronts.{front_take}
use Rattle.der_core.proofs.Leaves.{int_octets-whole}
use Rattle.der_core.proofs.Numbers.{some_bind, some_is}
use Rattle.der_core.proofs.Places.{length-enc}
use Rattle.der_core.proofs.Shapes.{is_tag, Begins, enc-begins, front_of-enc, element-front, sized-element-front, same-front}
use Rattle.der_core.proofs.Shapes.{alone-whole, before-whole, optional-whole, maybe_before-whole, mapped-whole}
use Rattle.der_core.proofs.Shapes.{tested-whole, number-whole, anything-whole, choice-front, length-number-le, listed-whole}
use Rattle.der_core.proofs.Shapes.{listed_end}
use Rattle.attribute_set.specs.Items.{items_of, AreItems}
use Rattle.attribute_set.proofs.ItemLemmas.{is_items, are_items, arent_items, first_item}
use Rattle.attribute_set.proofs.ItemLemmas.{no_item}
use Rattle.cert_fields.specs.Certificate.{Certificate, certificate_contents}
use Rattle.cert_fields.specs.CertificateReading.{certificate_of}
use Rattle.cert_fields.proofs.CertificateLaws.{certificate-whole}
use Rattle.cms_signed.specs.Certificates.{CertificateChoice, Plain, Other, choice_text, IsChoice, choices_text}
use Rattle.cms_signed.specs.Certificates.{AreChoices, certificates_among}
use Rattle.cms_signed.specs.SignerKnown.{HasCertificates}
use Rattle.cert_fields.specs.Sid.{SignerIdentifier, IssuerAndSerialNumber, SubjectKeyIdentifier, serial_contents}
use Rattle.cert_fields.specs.Sid.{sid_text, IsSid}
use Rattle.cms_signed.specs.Signer.{SignerInfo, signer_contents, signer_text, is_signer_version, IsSignerInfo}
use Rattle.cms_signed.specs.SignerReading.{choice_from, choice_at, sequence_of, serial_of, sid_at, signer_version_of}
use Rattle.cms_signed.specs.SignerReading.{signature_of, Attributed, attributed_of, signer_fields_of, signer_made, signer_of}

-- ---- certificates

from_takes : (tag : ℕ) (contents : List ℕ) (c : CertificateChoice) → IsElement tag contents
    → AreOctets (enc tag contents) → choice_from tag contents ≡ Some c
    → IsChoice c × (enc tag contents ≡ choice_text c)
unfolding choice_from
from_takes tag contents c h octets e = elim (cases_Bool (eqb tag 0x30)) [
  | inl is ↦
      let b = some_bind (certificate_of (enc tag contents)) (λ c. Some (Plain c)) c (rw is at e) in
      subst (λ (y : CertificateChoice). IsChoice y × (enc tag contents ≡ choice_text y)) (some_is (Plain b.0) c b.2)
      (certificate-whole.takes (enc tag contents) b.0 octets b.1)
  | inr isnt ↦
      subst (λ (y : CertificateChoice). IsChoice y × (enc tag contents ≡ choice_text y))
      (some_is (Other tag contents) c (rw isnt at e)) ((h, eqb-false tag 0x30 isnt), refl)
]

choice-takes : (bytes : List ℕ) (x : CertificateChoice × List ℕ) → AreOctets bytes → choice_at bytes ≡ Some x
    → IsChoice x.0 × (bytes ≡ choice_text x.0 ++ x.1)
unfolding choice_at
choice-takes bytes x octets e =
    let b = some_bind (front_of bytes) (λ y. choice_from y.0 y.1.0 >>? λ c. Some (c, y.1.1)) x e in
    let c = some_bind (choice_from b.0.0 b.0.1.0) (λ c. Some (c, b.0.1.1)) x b.2 in
    let t = element_takes bytes b.0 octets (front_take bytes b.0 b.1) in
    let f = from_takes b.0.0 b.0.1.0 c.0 t.0
    (AreOctets-left (enc b.0.0 b.0.1.0) b.0.1.1 (subst AreOctets t.1 octets)) c.1 in
    subst (λ (y : CertificateChoice × List ℕ). IsChoice y.0 × (bytes ≡ choice_text y.0 ++ y.1))
    (some_is (c.0, b.0.1.1) x c.2) (f.0, t.1 ∙ ap (λ (z : List ℕ). z ++ b.0.1.1) f.1)

choice-again : (c : CertificateChoice) (rest : List ℕ) → IsChoice c → choice_at (choice_text c ++ rest) ≡ Some (c, rest)
unfolding choice_at choice_from
choice-again (Plain c) rest h =
    let front = front_of-enc 0x30 (certificate_contents c) rest
    (record { octet = omega arith; low_bits = omega arith; fits = h.fits }) in
    rw (front, certificate-whole.again c h) refl
choice-again (Other tag contents) rest h =
    rw (front_of-enc tag contents rest h.0, ne_eqb tag 0x30 h.1) refl

pub certificate-front : IsFront choice_text IsChoice choice_at
certificate-front = record { takes = choice-takes; again = choice-again }

choice_some : (c : CertificateChoice) → 0 < length (choice_text c)
choice_some (Plain c) = omega (arith, length-enc 0x30 (certificate_contents c))
choice_some (Other tag contents) = omega (arith, length-enc tag contents)

pub choice_falls : (bytes : List ℕ) (x : CertificateChoice × List ℕ) → choice_at bytes ≡ Some x
    → length x.1 < length bytes
unfolding choice_at
choice_falls bytes x e =
    let b = some_bind (front_of bytes) (λ y. choice_from y.0 y.1.0 >>? λ c. Some (c, y.1.1)) x e in
    let c = some_bind (choice_from b.0.0 b.0.1.0) (λ c. Some (c, b.0.1.1)) x b.2 in
    subst (λ (y : CertificateChoice × List ℕ). length y.1 < length bytes) (some_is (c.0, b.0.1.1) x c.2)
    (any_element_falls bytes (enc b.0.0 b.0.1.0, b.0.1.1)
    (ap (λ (r : Option (ℕ × (List ℕ × List ℕ))). r >>? λ y. Some (enc y.0 y.1.0, y.1.1)) b.1))

pub choices-whole : IsWhole choices_text (AllByRecursion IsChoice) (listed choice_at)
choices-whole = listed-whole (λ c h. choice_some c) choice_falls certificate-front

-- octets that read so hold these certificates
pub certificates_are : (octets : List ℕ) → AreOctets octets → is_some (listed choice_at octets) ≡ true
    → HasCertificates (Some octets) (certificates_among (items_of choice_at octets))
certificates_are octets are is =
    let t = choices-whole.takes octets (items_of choice_at octets) are (are_items choice_at octets is) in
    record {
      choices = Some (items_of choice_at octets);
      valid = t.0;
      set_is = ap (λ (x : List ℕ). Some x) t.1;
      are = refl;
    }

pub nothing_is : AreItems choice_at []
nothing_is = rw (listed_end choice_at) refl

pub no_certificates : HasCertificates None (certificates_among (items_of choice_at []))
no_certificates = record {
  choices = None;
  valid = tt;
  set_is = refl;
  are = ap certificates_among (is_items choice_at [] [] (listed_end choice_at));
}

pub arent_certificates : (octets : List ℕ) → is_some (listed choice_at octets) ≡ false → AreChoices octets → ⊥
arent_certificates octets isnt (choices, valid, text) =
    none-some choices (sym (arent_items choice_at octets isnt) ∙ ap (listed choice_at) text
    ∙ choices-whole.again choices valid)

-- a certificate is passed, or another form
pub passed_plain : (octets rest : List ℕ) (c : Certificate) → AreItems choice_at octets
    → choice_at octets ≡ Some (Plain c, rest)
    → AreItems choice_at rest
    × (certificates_among (items_of choice_at octets) ≡ c ∷ certificates_among (items_of choice_at rest))
passed_plain octets rest c are is =
    let f = first_item choice_at octets rest (Plain c) choice_falls are is in (f.0, ap certificates_among f.1)

pub passed_other : (octets rest : List ℕ) (tag : ℕ) (contents : List ℕ) → AreItems choice_at octets
    → choice_at octets ≡ Some (Other tag contents, rest)
    → AreItems choice_at rest
    × (certificates_among (items_of choice_at octets) ≡ certificates_among (items_of choice_at rest))
passed_other octets rest tag contents are is =
    let f = first_item choice_at octets rest (Other tag contents) choice_falls are is in (f.0, ap certificates_among f.1)

pub none_passed : (octets : List ℕ) → AreItems choice_at octets → choice_at octets ≡ None
    → certificates_among (items_of choice_at octets) ≡ []
none_passed octets are is = ap certificates_among (no_item choice_at octets are is)

-- ---- the identifier of a signer

abbrev sid_contents : SignerIdentifier → List ℕ
sid_contents (IssuerAndSerialNumber issuer serial) = serial_contents (issuer, serial)
sid_contents (SubjectKeyIdentifier identifier) = identifier

abbrev BySerial : SignerIdentifier → Type 0
BySerial (IssuerAndSerialNumber issuer serial) = IsTagged 0x30 issuer × (IsInteger serial × HasRoom serial)
BySerial (SubjectKeyIdentifier identifier) = ⊥

abbrev ByKey : SignerIdentifier → Type 0
ByKey (IssuerAndSerialNumber issuer serial) = ⊥
ByKey (SubjectKeyIdentifier identifier) = Unit {0}

serial-whole : IsWhole serial_contents (λ x. IsTagged 0x30 x.0 × (IsInteger x.1 × HasRoom x.1)) serial_of
unfolding serial_of
serial-whole =
    before-whole (whole_element-front 0x30)
    (alone-whole (sized-element-front 0x02 (is_tag 0x02 refl) int_octets-whole))

by_serial-front : IsFront sid_text (λ v. BySerial v × HasRoom (sid_contents v))
    (element 0x30 (mapped (λ x. IssuerAndSerialNumber x.0 x.1) serial_of))
by_serial-front = same-front forth (λ v h. h)
    (sized-element-front 0x30 (is_tag 0x30 refl)
    (mapped-whole {text' = sid_contents} {IsValid' = BySerial} (λ x. IssuerAndSerialNumber x.0 x.1) (λ x h. (h, refl)) back serial-whole))
  where
    forth : (v : SignerIdentifier) → BySerial v × HasRoom (sid_contents v)
        → (BySerial v × HasRoom (sid_contents v)) × (enc 0x30 (sid_contents v) ≡ sid_text v)
    forth (IssuerAndSerialNumber issuer serial) h = (h, refl)
    forth (SubjectKeyIdentifier identifier) h = absurd h.0

    back : (v : SignerIdentifier) → BySerial v → (x : List ℕ × List ℕ)
        × (IsTagged 0x30 x.0 × (IsInteger x.1 × HasRoom x.1)) × (IssuerAndSerialNumber x.0 x.1 ≡ v)
    back (IssuerAndSerialNumber issuer serial) h = ((issuer, serial), h, refl)
    back (SubjectKeyIdentifier identifier) h = absurd h

by_key-front : IsFront sid_text (λ v. ByKey v × HasRoom (sid_contents v))
    (element 0x80 (mapped (λ octets. SubjectKeyIdentifier octets) anything))
by_key-front = same-front forth (λ v h. h)
    (sized-element-front 0x80 (is_tag 0x80 refl)
    (mapped-whole {text' = sid_contents} {IsValid' = ByKey} (λ octets. SubjectKeyIdentifier octets) (λ x h. (h, refl)) back anything-whole))
  where
    forth : (v : SignerIdentifier) → ByKey v × HasRoom (sid_contents v)
        → (ByKey v × HasRoom (sid_contents v)) × (enc 0x80 (sid_contents v) ≡ sid_text v)
    forth (IssuerAndSerialNumber issuer serial) h = absurd h.0
    forth (SubjectKeyIdentifier identifier) h = (h, refl)

    back : (v : SignerIdentifier) → ByKey v → (x : List ℕ) × Unit {0} × (SubjectKeyIdentifier x ≡ v)
    back (IssuerAndSerialNumber issuer serial) h = absurd h
    back (SubjectKeyIdentifier identifier) h = (identifier, tt, refl)

sid-front : IsFront sid_text IsSid sid_at
unfolding sid_at
sid-front = same-front forth back (choice-front 0x30 begins differs by_serial-front by_key-front)
  where
    forth : (v : SignerIdentifier)
        → (BySerial v × HasRoom (sid_contents v)) ⊎ (ByKey v × HasRoom (sid_contents v))
        → IsSid v × (sid_text v ≡ sid_text v)
    forth (IssuerAndSerialNumber issuer serial) (inl h) = ((h.0.0, (h.0.1.0, h.1)), refl)
    forth (IssuerAndSerialNumber issuer serial) (inr h) = absurd h.0
    forth (SubjectKeyIdentifier identifier) (inl h) = absurd h.0
    forth (SubjectKeyIdentifier identifier) (inr h) = (h.1, refl)

    serial_room : (issuer serial : List ℕ) → HasRoom (serial_contents (issuer, serial)) → HasRoom serial
    serial_room issuer serial room =
        omega (arith, room, length-append issuer (enc 0x02 serial), length-enc 0x02 serial)

    back : (v : SignerIdentifier) → IsSid v
        → (BySerial v × HasRoom (sid_contents v)) ⊎ (ByKey v × HasRoom (sid_contents v))
    back (IssuerAndSerialNumber issuer serial) h =
        inl ((h.0, (h.1.0, serial_room issuer serial h.1.1)), h.1.1)
    back (SubjectKeyIdentifier identifier) h = inr (tt, h)

    begins : (v : SignerIdentifier) → BySerial v × HasRoom (sid_contents v) → Begins 0x30 (sid_text v)
    begins (IssuerAndSerialNumber issuer serial) h = enc-begins 0x30 (serial_contents (issuer, serial))
    begins (SubjectKeyIdentifier identifier) h = absurd h.0

    differs : (v : SignerIdentifier) → ByKey v × HasRoom (sid_contents v)
        → (b : ℕ) × (b ≢ 0x30) × Begins b (sid_text v)
    differs (IssuerAndSerialNumber issuer serial) h = absurd h.0
    differs (SubjectKeyIdentifier identifier) h = (0x80, λ e. omega (arith, e), enc-begins 0x80 identifier)

-- ---- the signer

pub sequence-whole : IsWhole (enc 0x30) HasRoom sequence_of
unfolding sequence_of
sequence-whole = alone-whole (raw-front 0x30 (is_tag 0x30 refl))

version-whole : IsWhole number_contents (λ n. (n < 2 ^ 128) × IsTrue (is_signer_version n)) signer_version_of
unfolding signer_version_of
version-whole = tested-whole is_signer_version number-whole

version_small : (n : ℕ) → IsTrue (is_signer_version n) → n < 2 ^ 128
version_small n h = elim (cases_Bool (eqb n 1)) [
  | inl one ↦ omega (arith, eqb-true n 1 one)
  | inr not_one ↦ omega (arith, eqb-true n 3 (rw not_one at h))
]

signature-whole : IsWhole (λ (x : List ℕ × Option (List ℕ)). enc 0x04 x.0 ++ text_if (enc 0xA1) x.1)
    (λ x. HasRoom x.0 × IfSome x.1 HasRoom) signature_of
unfolding signature_of
signature-whole =
    before-whole (raw-front 0x04 (is_tag 0x04 refl))
    (optional-whole (λ v h. omega (arith, length-enc 0xA1 v)) (alone-whole (raw-front 0xA1 (is_tag 0xA1 refl))))

attributed-whole : IsWhole
    (λ (x : Attributed). text_if (λ octets. octets) x.0 ++ (x.1.0 ++ (enc 0x04 x.1.1.0 ++ text_if (enc 0xA1) x.1.1.1)))
    (λ x. IfSome x.0 (IsTagged 0xA0) × (IsTagged 0x30 x.1.0 × (HasRoom x.1.1.0 × IfSome x.1.1.1 HasRoom)))
    attributed_of
unfolding attributed_of
attributed-whole =
    maybe_before-whole 0xA0 (λ v h. tagged-begins 0xA0 v h)
    (λ w h. rw (tagged-begins 0x30 w.0 h.0).1 refl)
    (whole_element-front 0xA0) (before-whole (whole_element-front 0x30) signature-whole)

-- a signer but for the room that the SEQUENCE around it has
abbrev IsInner : SignerInfo → Type 0
IsInner s =
    ((s.version < 2 ^ 128) × IsTrue (is_signer_version s.version))
    × (IsSid s.sid × (IsTagged 0x30 s.digest_algorithm
    × (IfSome s.signed_attributes (IsTagged 0xA0)
    × (IsTagged 0x30 s.signature_algorithm × (HasRoom s.signature × IfSome s.unsigned_attributes HasRoom)))))

inner-whole : IsWhole signer_contents IsInner (mapped signer_made signer_fields_of)
unfolding signer_fields_of
inner-whole =
    mapped-whole signer_made (λ x h. (h, refl))
    (λ s h. (
      (
        s.version,
        (
          s.sid,
          (
            s.digest_algorithm,
            (s.signed_attributes, (s.signature_algorithm, (s.signature, s.unsigned_attributes))),
          ),
        ),
      ),
      h,
      refl,
    ))
    (before-whole (element-front 0x02 (is_tag 0x02 refl) (λ v h. omega (arith, length-number-le v h.0)) version-whole)
    (before-whole sid-front (before-whole (whole_element-front 0x30) attributed-whole)))

pub signer-whole : IsWhole signer_text IsSignerInfo signer_of
unfolding signer_of
signer-whole =
    alone-whole (same-front
    (λ s h. (
      record {
        version = h.0.0.1;
        sid = h.0.1.0;
        digest_algorithm = h.0.1.1.0;
        signed_attributes = h.0.1.1.1.0;
        signature_algorithm = h.0.1.1.1.1.0;
        signature = h.0.1.1.1.1.1.0;
        unsigned_attributes = h.0.1.1.1.1.1.1;
        fits = h.1;
      },
      refl,
    ))
    (λ s h. (
      (
        (version_small s.version h.version, h.version),
        (
          h.sid,
          (
            h.digest_algorithm,
            (h.signed_attributes, (h.signature_algorithm, (h.signature, h.unsigned_attributes))),
          ),
        ),
      ),
      h.fits,
    ))
    (sized-element-front 0x30 (is_tag 0x30 refl) inner-whole))
