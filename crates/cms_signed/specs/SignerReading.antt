-- Reading certificates and what a signer says, by the shapes of their texts. A bridge between the code and the texts:
-- nothing here has to be believed.
use Rattle.std.specs.Prelude.{ℕ, List, ◌==◌, if◌then◌else◌, Option, Some}
use Rattle.der_core.specs.Element.{enc}
use Rattle.der_core.specs.LeafReading.{integer_of}
use Rattle.der_core.specs.Reading.{◌>>?◌, front_of, number_of}
use Rattle.der_core.specs.Shapes.{Front, Whole, element, alone, before, optional, choice, mapped, tested, anything}
use Rattle.der_core.specs.Shapes.{whole_element, maybe_before}
use Rattle.cert_fields.specs.CertificateReading.{certificate_of}
use Rattle.cms_signed.specs.Certificates.{CertificateChoice, Plain, Other}
use Rattle.cert_fields.specs.Sid.{SignerIdentifier, IssuerAndSerialNumber, SubjectKeyIdentifier}
use Rattle.cms_signed.specs.Signer.{SignerInfo, is_signer_version}

-- ---- certificates

-- an element that was found, as a choice
unfoldable pub choice_from : ℕ → List ℕ → Option CertificateChoice
choice_from tag contents =
    if tag == 0x30 then (certificate_of (enc tag contents) >>? λ c. Some (Plain c)) else Some (Other tag contents)

unfoldable pub choice_at : Front CertificateChoice
choice_at bytes = front_of bytes >>? λ x. choice_from x.0 x.1.0 >>? λ c. Some (c, x.1.1)

-- ---- the signer

-- the contents of one SEQUENCE
unfoldable pub sequence_of : Whole (List ℕ)
sequence_of = alone (element 0x30 anything)

unfoldable pub serial_of : Whole (List ℕ × List ℕ)
serial_of = before (whole_element 0x30) (alone (element 0x02 integer_of))

unfoldable pub sid_at : Front SignerIdentifier
sid_at =
    choice 0x30 (element 0x30 (mapped (λ x. IssuerAndSerialNumber x.0 x.1) serial_of))
    (element 0x80 (mapped (λ octets. SubjectKeyIdentifier octets) anything))

unfoldable pub signer_version_of : Whole ℕ
signer_version_of = tested is_signer_version number_of

-- the signature, and the contents of the unsigned attributes
unfoldable pub signature_of : Whole (List ℕ × Option (List ℕ))
signature_of = before (element 0x04 anything) (optional (alone (element 0xA1 anything)))

-- the signed attributes, the signature's algorithm, and what follows
abbrev pub Attributed : Type 0
Attributed = Option (List ℕ) × (List ℕ × (List ℕ × Option (List ℕ)))

unfoldable pub attributed_of : Whole Attributed
attributed_of = maybe_before 0xA0 (whole_element 0xA0) (before (whole_element 0x30) signature_of)

abbrev pub SignerFields : Type 0
SignerFields = ℕ × (SignerIdentifier × (List ℕ × Attributed))

unfoldable pub signer_fields_of : Whole SignerFields
signer_fields_of = before (element 0x02 signer_version_of) (before sid_at (before (whole_element 0x30) attributed_of))

abbrev pub signer_made : SignerFields → SignerInfo
signer_made x = record {
  version = x.0;
  sid = x.1.0;
  digest_algorithm = x.1.1.0;
  signed_attributes = x.1.1.1.0;
  signature_algorithm = x.1.1.1.1.0;
  signature = x.1.1.1.1.1.0;
  unsigned_attributes = x.1.1.1.1.1.1;
}

unfoldable pub signer_of : Whole SignerInfo
signer_of = alone (element 0x30 (mapped signer_made signer_fields_of))
