-- The set of certificates, by their octets and by their values.
use Rattle.std.proofs.Common.{◌≡◌, ℕ, ◌<◌, List, [], ◌∷◌, length, option_map, refl, ap, ◌∙◌, arith}
use Rattle.std.proofs.lemmas.List.{length-append}
use Rattle.der_core.specs.Element.{enc}
use Rattle.der_core.specs.Shapes.{text_if}
use Rattle.cms_signed.specs.Certificates.{CertificateChoice, Plain, Other, choice_text, choices_text}
use Rattle.signed_write.specs.Written.{written_choices, certificates_text}

-- octets of which there are some stand in [0]
pub some_certificates : (octets : List ℕ) → 0 < length octets → certificates_text octets ≡ enc 0xA0 octets
some_certificates [] some = absurd (omega (arith, some))
some_certificates (octet ∷ octets) some = refl

-- an element has octets
element_has : (tag : ℕ) (contents : List ℕ) → 0 < length (enc tag contents)
unfolding enc
element_has tag contents = omega arith

choice_has : (choice : CertificateChoice) → 0 < length (choice_text choice)
choice_has (Plain certificate) = element_has 0x30 _
choice_has (Other tag contents) = element_has tag contents

-- the octets of choices stand in [0], where there are any choices
pub choices_part : (octets : List ℕ) (choices : List CertificateChoice) → octets ≡ choices_text choices
    → certificates_text octets ≡ text_if (enc 0xA0) (option_map choices_text (written_choices choices))
choices_part octets [] is = ap certificates_text is
choices_part octets (choice ∷ choices) is =
    ap certificates_text is
    ∙ some_certificates (choices_text (choice ∷ choices))
    (omega (arith, choice_has choice, length-append (choice_text choice) (choices_text choices)))
