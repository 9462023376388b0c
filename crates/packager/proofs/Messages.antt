-- A planned package is signed data of one signer.
use Rattle.std.proofs.Common.{◌≡◌, ℕ, ◌+◌, ◌≤◌, ◌^◌, Bool, true, false, List, [], ◌∷◌, ◌++◌, map, length, get_or, Option, Some, None, IfSome, refl, ap, arith, lit<}
use Rattle.std.specs.Prelude.{option_map, IsSome}
use Rattle.std.specs.List.{AllByRecursion, flat_map}
use Rattle.std.proofs.lemmas.List.{length-append}
use Rattle.der_core.specs.Asked.{AllHold}
use Rattle.der_core.specs.Element.{enc, length_octets, HasRoom, IsTagged, IsElement}
use Rattle.der_core.specs.Number.{number_contents}
use Rattle.der_core.specs.Shapes.{text_if}
use Rattle.der_core.proofs.Lengths.{length-enc-le, length-number-le}
use Rattle.der_core.proofs.Places.{length-enc}
use Rattle.attribute_set.specs.AttributeSet.{set_contents}
use Rattle.cert_fields.specs.Algorithms.{sha_256, hss_lms, digest_algorithm, signature_algorithm}
use Rattle.cert_fields.specs.KeptCertificate.{certificate_in}
use Rattle.cms_signed.specs.Certificates.{CertificateChoice, Plain, IsChoice, AreChoices, choices_text}
use Rattle.cms_signed.specs.Cut.{firmware_package, signed_data}
use Rattle.cms_signed.specs.Message.{Message, IsMessage, message_info, message_data, message_encapsulated, message_tail, message_signer, message_text}
use Rattle.cms_signed.specs.Signed.{signed_contents, signed_text, info_contents, encapsulated_contents}
use Rattle.cms_signed.specs.Signed.{Tail, tail_text, IsTail, ContentInfo, SignedData, EncapsulatedContentInfo}
use Rattle.cms_signed.specs.Signed.{IsInfo, IsSigned, IsEncapsulated, HasInfo, HasSigned, HasEncapsulated}
use Rattle.cms_signed.specs.Signed.{encrypted_data, compressed_data, IsOuter}
use Rattle.cms_signed.specs.Signer.{SignerInfo, signer_text, signer_contents, signed_attributes_text, IsSignerInfo}
use Rattle.cms_signed.specs.Tail.{HasTail, HasSigner, signed_conditions}
use Rattle.cms_signed.proofs.SignedLaws.{tail_from}
use Rattle.packager.specs.PackagePlan.{PlannedPackage, IsPackagePlan, HasTexts, IsCertificateText}
use Rattle.packager.specs.PlannedMessage.{planned_content, planned_attributes, planned_message}
use Rattle.signed_write.specs.Written.{written_choices}
use Rattle.packager.specs.ReadPlans.{AllBut}
use Rattle.packager.proofs.Choices.{ReadsBack, are_choices, written_part}
use Rattle.packager.proofs.Descriptions.{attribute_set, attributes_size, signed_data_is, firmware_package_is}

-- ---- sizes

-- what an element holds has fewer octets than it
inside : (tag : ℕ) (contents : List ℕ) → length contents ≤ length (enc tag contents)
inside tag contents = omega (arith, length-enc tag contents)

content_size : (p : PlannedPackage) → IsPackagePlan p → length (planned_content p) ≤ 2 ^ 24 + 6
content_size p plan = by_case p.wrap
  where
    by_case : (wrap : Bool) → length (planned_content (record p { wrap = wrap })) ≤ 2 ^ 24 + 6
    by_case true = omega (arith, plan.image, length-enc-le 0x04 p.image (omega (arith, plan.image)))
    by_case false = omega (arith, plan.image)

-- the parts of a tail fit into it
tail_parts : (t : Tail) → (length (text_if (enc 0xA0) t.certificates) ≤ length (tail_text t))
    × (length (enc 0x31 t.signer_infos) ≤ length (tail_text t))
tail_parts t =
    let first = length-append (text_if (enc 0xA0) t.certificates) (text_if (enc 0xA1) t.crls ++ enc 0x31 t.signer_infos) in
    let second = length-append (text_if (enc 0xA1) t.crls) (enc 0x31 t.signer_infos) in
    (omega (arith, first), omega (arith, first, second))

digest_size : length (digest_algorithm false) ≡ 13
unfolding enc length_octets
digest_size = refl

pub signature_algorithm_size : length signature_algorithm ≡ 15
unfolding enc length_octets
signature_algorithm_size = refl

-- ---- parts

digest_is : IsTagged 0x30 (digest_algorithm false)
unfolding enc length_octets
digest_is = record {
  contents = enc 0x06 sha_256 ++ [];
  element = record { octet = omega arith; low_bits = omega arith; fits = lit< tt };
  text = refl;
}

pub signature_algorithm_is : IsTagged 0x30 signature_algorithm
unfolding enc length_octets
signature_algorithm_is = record {
  contents = enc 0x06 hss_lms ++ [];
  element = record { octet = omega arith; low_bits = omega arith; fits = lit< tt };
  text = refl;
}

-- contents of an element that isn't long
has_room : (octets : List ℕ) → length octets ≤ 2 ^ 30 → HasRoom octets
has_room octets few = omega (arith, few)

-- the certificates that stand in a tail that isn't long
certificates_fit : (octets : Option (List ℕ)) → length (text_if (enc 0xA0) octets) ≤ 2 ^ 30 → IfSome octets HasRoom
certificates_fit None few = tt
certificates_fit (Some octets) few = has_room octets (omega (arith, few, inside 0xA0 octets))

choices_are : ReadsBack → (texts : List (List ℕ)) → AllByRecursion IsCertificateText texts
    → IfSome (written_choices (map (λ text. Plain (certificate_in text)) texts)) (AllByRecursion IsChoice)
choices_are reads [] all = tt
choices_are reads (text ∷ texts) all = are_choices reads (text ∷ texts) all

-- what is written of them is read
choices_read : (choices : Option (List CertificateChoice)) → IfSome choices (AllByRecursion IsChoice)
    → IfSome (option_map choices_text choices) AreChoices
choices_read None all = tt
choices_read (Some choices) all = (choices, all, refl)

module _ (p : PlannedPackage) (signature : List ℕ) (plan : IsPackagePlan p) (texts : HasTexts p)
    (few : length (tail_text (message_tail (planned_message p signature))) ≤ 2 ^ 28) where
  abbrev m : Message
  m = planned_message p signature

  signer_size : length (signer_text (message_signer m.signer)) ≤ 2 ^ 28
  signer_size =
      omega (arith, few, (tail_parts (message_tail m)).1, inside 0x31 (signer_text (message_signer m.signer)))

  contents_size : length (signer_contents (message_signer m.signer)) ≤ 2 ^ 28
  contents_size = omega (arith, signer_size, inside 0x30 (signer_contents (message_signer m.signer)))

  -- attributes and signature fit into the signer
  parts_fit : (length (signed_attributes_text (planned_attributes p)) ≤ 2 ^ 28) × (length signature ≤ 2 ^ 28)
  parts_fit =
      let version = enc 0x02 (number_contents 3) in
      let sid = enc 0x80 p.signer in
      let digest = digest_algorithm false in
      let attrs = signed_attributes_text (planned_attributes p) in
      let rest = signature_algorithm ++ (enc 0x04 signature ++ []) in
      let a = length-append version (sid ++ (digest ++ (attrs ++ rest))) in
      let b = length-append sid (digest ++ (attrs ++ rest)) in
      let c = length-append digest (attrs ++ rest) in
      let d = length-append attrs rest in
      let e = length-append signature_algorithm (enc 0x04 signature ++ []) in
      let f = length-append (enc 0x04 signature) [] in (
        omega (arith, contents_size, a, b, c, d),
        omega (arith, contents_size, a, b, c, d, e, f, inside 0x04 signature),
      )

  signer_is : IsSignerInfo (message_signer m.signer)
  signer_is = record {
    version = refl;
    sid = omega (arith, plan.signer.1);
    digest_algorithm = digest_is;
    signed_attributes = record {
      contents = set_contents (planned_attributes p);
      element = record {
        octet = omega arith;
        low_bits = omega arith;
        fits = omega (arith, parts_fit.0, inside 0xA0 (set_contents (planned_attributes p)));
      };
      text = refl;
    };
    signature_algorithm = signature_algorithm_is;
    signature = omega (arith, parts_fit.1);
    unsigned_attributes = tt;
    fits = omega (arith, contents_size);
  }

  tail_is : IsTail (message_tail m)
  tail_is = (
    certificates_fit (message_tail m).certificates (omega (arith, few, (tail_parts (message_tail m)).0)),
    (tt, omega (arith, signer_size)),
  )

  encapsulated_size : length (encapsulated_contents (message_encapsulated m)) ≤ 2 ^ 24 + 100
  encapsulated_size =
      let size = content_size p plan in
      let octets = length-enc-le 0x04 (planned_content p) (omega (arith, size)) in
      omega (
        arith,
        size,
        octets,
        length-enc-le 0xA0 (enc 0x04 (planned_content p)) (omega (arith, size, octets)),
        length-enc-le 0x06 firmware_package (omega arith),
        length-append (enc 0x06 firmware_package) (enc 0xA0 (enc 0x04 (planned_content p))),
      )

  data_size : length (signed_contents (message_data m)) ≤ 2 ^ 29
  data_size =
      let version = enc 0x02 (number_contents 3) in
      let digests = enc 0x31 (digest_algorithm false) in
      let encapsulated = enc 0x30 (encapsulated_contents (message_encapsulated m)) in
      let tail = tail_text (message_tail m) in
      let three : length (number_contents 3) ≤ 17 = length-number-le 3 (lit< tt) in
      omega (
        arith,
        few,
        three,
        length-enc-le 0x02 (number_contents 3) (omega (arith, three)),
        length-enc-le 0x31 (digest_algorithm false) (omega (arith, digest_size)),
        digest_size,
        encapsulated_size,
        length-enc-le 0x30 (encapsulated_contents (message_encapsulated m)) (omega (arith, encapsulated_size)),
        length-append version (digests ++ (encapsulated ++ tail)),
        length-append digests (encapsulated ++ tail),
        length-append encapsulated tail,
      )

  text_size : length (signed_text (message_data m)) ≤ 2 ^ 30
  text_size = omega (arith, data_size, length-enc-le 0x30 (signed_contents (message_data m)) (omega (arith, data_size)))

  info_size : length (info_contents (message_info m)) ≤ 2 ^ 31
  info_size =
      omega (
        arith,
        text_size,
        length-enc-le 0xA0 (signed_text (message_data m)) (omega (arith, text_size)),
        length-enc-le 0x06 signed_data (omega arith),
        length-append (enc 0x06 signed_data) (enc 0xA0 (signed_text (message_data m))),
      )

  info_is : IsInfo (message_info m)
  info_is = (
    (
      signed_data_is,
      (
        (
          0x30,
          signed_contents (message_data m),
          record { octet = omega arith; low_bits = omega arith; fits = omega (arith, data_size) },
          refl,
        ),
        omega (arith, text_size),
      ),
    ),
    omega (arith, info_size),
  )

  signed_is : IsSigned (message_data m)
  signed_is = (
    ((lit< tt, refl), omega (arith, length-number-le 3 (lit< tt))),
    (
      omega (arith, digest_size),
      (omega (arith, encapsulated_size), (message_tail m, tail_is, refl)),
    ),
  )

  signed_fits : HasRoom (signed_contents (message_data m))
  signed_fits = omega (arith, data_size)

  encapsulated_is : IsEncapsulated (message_encapsulated m)
  encapsulated_is = (
    firmware_package_is,
    (
      omega (arith, content_size p plan),
      omega (arith, content_size p plan, length-enc-le 0x04 (planned_content p) (omega (arith, content_size p plan))),
    ),
  )

  not_encrypted : firmware_package ≡ encrypted_data → ⊥
  not_encrypted is = absurd (omega (arith, ap (λ (octets : List ℕ). get_or octets 7 0) is))

  not_compressed : firmware_package ≡ compressed_data → ⊥
  not_compressed is = absurd (omega (arith, ap (λ (octets : List ℕ). get_or octets 10 0) is))

  pub message_is : length (tail_text (message_tail (planned_message p signature))) ≤ 1048576 → ReadsBack
      → IsMessage firmware_package (planned_message p signature)
  message_is most reads = record {
    info = info_is;
    signed = signed_is;
    signed_fits = signed_fits;
    encapsulated = encapsulated_is;
    content_type = refl;
    not_encrypted = not_encrypted;
    not_compressed = not_compressed;
    tail = tail_is;
    most = most;
    certificates = choices_are reads p.certificates plan.certificates;
    signer = signer_is;
    signed_attributes = attribute_set p plan texts;
    unsigned_attributes = tt;
  }

  -- ---- the conditions, but for the limit of what stands behind the content

  in_info : (P : ContentInfo → Type 0) → P (message_info m) → HasInfo (message_text m) P
  in_info P h = (message_info m, info_is, refl, h)

  in_signed : (P : SignedData → Type 0) → P (message_data m) → HasSigned (message_text m) P
  in_signed P h = in_info _ (message_data m, (signed_is, signed_fits), refl, h)

  in_encapsulated : (P : SignedData → EncapsulatedContentInfo → Type 0) → P (message_data m) (message_encapsulated m)
      → HasEncapsulated (message_text m) P
  in_encapsulated P h = in_signed _ (message_encapsulated m, encapsulated_is, refl, h)

  in_tail : (P : Tail → Type 0) → P (message_tail m) → HasTail (tail_text (message_tail m)) P
  in_tail P h = (message_tail m, tail_is, refl, h)

  in_signer : (P : SignerInfo → Type 0) → P (message_signer m.signer) → HasSigner (tail_text (message_tail m)) P
  in_signer P h = in_tail _ (message_signer m.signer, signer_is, refl, h)

  one_signer : (contents : List ℕ) × IsElement 0x30 contents
      × (signer_text (message_signer m.signer) ≡ enc 0x30 contents)
  one_signer = (
    signer_contents (message_signer m.signer),
    record { octet = omega arith; low_bits = omega arith; fits = omega (arith, contents_size) },
    refl,
  )

  pub conditions_but : ReadsBack
      → AllBut 11 (signed_conditions firmware_package (message_text (planned_message p signature)))
  conditions_but reads = (
    (λ _. in_info (λ i. Unit {0}) tt),
    (
      (λ _. in_info (λ i. i.content_type ≡ signed_data) refl),
      (
        (λ _. in_signed (λ s. Unit {0}) tt),
        (
          (λ _. in_encapsulated (λ s e. Unit {0}) tt),
          (
            (λ _. in_encapsulated (λ s e. e.content_type ≡ encrypted_data → ⊥) not_encrypted),
            (
              (λ _. in_encapsulated (λ s e. e.content_type ≡ compressed_data → ⊥) not_compressed),
              (
                (λ _. in_encapsulated (λ s e. e.content_type ≡ firmware_package) refl),
                (
                  (λ _. in_encapsulated (λ s e. IsSome e.content) refl),
                  (
                    (λ other. absurd (other refl)),
                    (
                      (λ _. in_encapsulated _ (in_tail _ (choices_read m.certificates (choices_are reads p.certificates plan.certificates)))),
                      (
                        (λ _. in_encapsulated _ (in_tail _ one_signer)),
                        (
                          (λ _. in_encapsulated _ (in_signer _ tt)),
                          (
                            (λ _. in_encapsulated _ (in_signer _ tt)),
                            (
                              (λ _. in_encapsulated _ (in_signer _ (planned_attributes p, attribute_set p plan texts, refl))),
                              (
                                (λ _. in_encapsulated _ (in_signer _ (false, refl))),
                                (
                                  (λ _. in_encapsulated _ (in_signer _ refl)),
                                  tt,
                                ),
                              ),
                            ),
                          ),
                        ),
                      ),
                    ),
                  ),
                ),
              ),
            ),
          ),
        ),
      ),
    ),
  )

  outer : IsOuter (message_text m) (planned_content p) (tail_text (message_tail m))
  outer = in_encapsulated _ (refl, refl)

  -- condition 11 is the limit
  pub limit_is : AllHold (signed_conditions firmware_package (message_text (planned_message p signature)))
      → length (tail_text (message_tail (planned_message p signature))) ≤ 1048576
  limit_is h =
      tail_from (message_text m) (planned_content p) (tail_text (message_tail m)) (λ octets. length octets ≤ 1048576) outer
      h.1.1.1.1.1.1.1.1.0

-- ---- what stands behind the content

certificates_size : ReadsBack → (texts : List (List ℕ)) → AllByRecursion IsCertificateText texts
    → length (flat_map (λ text. text) texts) ≤ 2 ^ 26
    → length (text_if (enc 0xA0) (option_map choices_text (written_choices (map (λ text. Plain (certificate_in text)) texts))))
    ≤ 2 ^ 26 + 6
certificates_size reads [] all few = omega arith
certificates_size reads (text ∷ texts) all few =
    omega (
      arith,
      few,
      ap length (written_part reads (text ∷ texts) all (omega arith)),
      length-enc-le 0xA0 (flat_map (λ text. text) (text ∷ texts)) (omega (arith, few)),
    )

pub tail_size : (p : PlannedPackage) (signature : List ℕ) → IsPackagePlan p → HasTexts p → length signature ≤ 2 ^ 20
    → ReadsBack → length (tail_text (message_tail (planned_message p signature))) ≤ 2 ^ 28
tail_size p signature plan texts few reads =
    let signer = message_signer (planned_message p signature).signer in
    let version = enc 0x02 (number_contents 3) in
    let sid = enc 0x80 p.signer in
    let digest = digest_algorithm false in
    let attrs = signed_attributes_text (planned_attributes p) in
    let rest = signature_algorithm ++ (enc 0x04 signature ++ []) in
    let three : length (number_contents 3) ≤ 17 = length-number-le 3 (lit< tt) in
    let set = attributes_size p plan texts in
    let contents : length (signer_contents signer) ≤ 2 ^ 25 =
    omega (
      arith,
      few,
      plan.signer.1,
      set,
      three,
      digest_size,
      signature_algorithm_size,
      length-enc-le 0x02 (number_contents 3) (omega (arith, three)),
      length-enc-le 0x80 p.signer (omega (arith, plan.signer.1)),
      length-enc-le 0xA0 (set_contents (planned_attributes p)) (omega (arith, set)),
      length-enc-le 0x04 signature (omega (arith, few)),
      length-append version (sid ++ (digest ++ (attrs ++ rest))),
      length-append sid (digest ++ (attrs ++ rest)),
      length-append digest (attrs ++ rest),
      length-append attrs rest,
      length-append signature_algorithm (enc 0x04 signature ++ []),
      length-append (enc 0x04 signature) [],
    ) in
    let whole : length (signer_text signer) ≤ 2 ^ 25 + 6 =
    omega (arith, contents, length-enc-le 0x30 (signer_contents signer) (omega (arith, contents))) in
    let t = message_tail (planned_message p signature) in
    omega (
      arith,
      whole,
      length-enc-le 0x31 (signer_text signer) (omega (arith, whole)),
      certificates_size reads p.certificates plan.certificates plan.certificate_octets,
      length-append (text_if (enc 0xA0) t.certificates) (text_if (enc 0xA1) t.crls ++ enc 0x31 t.signer_infos),
      length-append (text_if (enc 0xA1) t.crls) (enc 0x31 t.signer_infos),
    )
