-- The certificates beside a content (RFC 5652, sections 10.2.2 and 10.2.3).
--
--   CertificateSet ::= SET OF CertificateChoices
--
--   CertificateChoices ::= CHOICE {
--     certificate Certificate,
--     extendedCertificate [0] IMPLICIT ExtendedCertificate,
--     v1AttrCert [1] IMPLICIT AttributeCertificateV1,
--     v2AttrCert [2] IMPLICIT AttributeCertificateV2,
--     other [3] IMPLICIT OtherCertificateFormat }
--
-- A SEQUENCE is a certificate. An element of any other tag is another form, which isn't looked at. They may stand in any
-- order.
use Rattle.std.specs.Prelude.{◌≡◌, ℕ, List, [], ◌∷◌}
use Rattle.std.specs.List.{AllByRecursion, flat_map}
use Rattle.der_core.specs.Element.{enc, IsElement}
use Rattle.cert_fields.specs.Certificate.{Certificate, certificate_text, IsCertificate}

-- a certificate, or the tag and the contents of another form
pub data CertificateChoice : Type 0 where
  Plain : (certificate : Certificate) → CertificateChoice
  Other : (tag : ℕ) (contents : List ℕ) → CertificateChoice

abbrev pub choice_text : CertificateChoice → List ℕ
choice_text (Plain certificate) = certificate_text certificate
choice_text (Other tag contents) = enc tag contents

-- a choice that has a text
abbrev pub IsChoice : CertificateChoice → Type 0
IsChoice (Plain certificate) = IsCertificate certificate
IsChoice (Other tag contents) = IsElement tag contents × (tag ≡ 0x30 → ⊥)

-- the contents of the SET
abbrev pub choices_text : List CertificateChoice → List ℕ
choices_text choices = flat_map choice_text choices

abbrev pub AreChoices : List ℕ → Type 0
AreChoices octets =
    (choices : List CertificateChoice) × AllByRecursion IsChoice choices × (octets ≡ choices_text choices)

-- the certificates among them, in their order
abbrev pub certificates_among : List CertificateChoice → List Certificate
certificates_among [] = []
certificates_among (Plain certificate ∷ choices) = certificate ∷ certificates_among choices
certificates_among (Other tag contents ∷ choices) = certificates_among choices
