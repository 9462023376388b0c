-- Signed data of one signer, as it is written (RFC 5652, section 5; RFC 9708, section 4).
use Rattle.std.specs.Prelude.{◌≡◌, ℕ, ◌≤◌, ◌^◌, false, List, [], ◌∷◌, ◌++◌, map, length, Option, Some, None}
use Rattle.std.specs.List.{concat}
use Rattle.der_core.specs.Attribute.{Attribute, attribute_text}
use Rattle.der_core.specs.Element.{enc}
use Rattle.cert_fields.specs.Algorithms.{digest_algorithm}
use Rattle.cert_fields.specs.Sid.{SubjectKeyIdentifier}
use Rattle.cms_signed.specs.Certificates.{CertificateChoice, choices_text}
use Rattle.cms_signed.specs.Message.{Signer, Message}
use Rattle.signed_write.specs.declared.draft.Draft.{Draft}
use Rattle.signed_write.specs.Orders.{in_order}

-- ---- the message

-- What signed data of one signer says, but for its signature.
pub record Written : Type 0 where
  -- eContentType by its contents, and the value octets of eContent (section 5.2)
  pub content_type : List ℕ
  pub content : List ℕ
  pub certificates : List CertificateChoice
  -- the signer's key identifier
  pub signer : List ℕ
  -- the signed attributes, in no order
  pub attributes : List Attribute

-- certificates that are written; none is no set
abbrev pub written_choices : List CertificateChoice → Option (List CertificateChoice)
written_choices [] = None
written_choices (c ∷ cs) = Some (c ∷ cs)

-- the signer, with this signature: v3, by a key identifier, with HSS/LMS over SHA-256 without parameters, and the signed
-- attributes in the order of DER (RFC 5652, section 5.3; RFC 9708, section 4)
abbrev pub written_signer : Written → List ℕ → Signer
written_signer w signature = record {
  version = 3;
  sid = SubjectKeyIdentifier w.signer;
  has_null = false;
  signed_attributes = in_order w.attributes;
  signature = signature;
  unsigned_attributes = None;
}

-- the signed data, with this signature: v3 (RFC 5652, section 5.1)
abbrev pub written_message : Written → List ℕ → Message
written_message w signature = record {
  version = 3;
  digest_algorithms = digest_algorithm false;
  content_type = w.content_type;
  content = w.content;
  certificates = written_choices w.certificates;
  crls = None;
  signer = written_signer w signature;
}

-- certificates, by their octets, in [0]; none is no set (section 5.1)
abbrev pub certificates_text : List ℕ → List ℕ
certificates_text [] = []
certificates_text (octet ∷ octets) = enc 0xA0 (octet ∷ octets)

-- ---- drafts

-- The octets of the draft say this.
pub record IsDraft (d : Draft) (w : Written) : Type 0 where
  pub content_type : d.content_type.now ≡ w.content_type
  pub content : d.front.now ++ d.content.now ≡ w.content
  pub certificates : d.certificates.now ≡ choices_text w.certificates
  pub signer : d.signer.now ≡ w.signer
  pub attributes : map (λ part. part.items) d.attributes.now ≡ map attribute_text w.attributes

-- A draft of which signed data is written. The limits are this project's own, and elements have room for what keeps them.
pub record IsWithinLimits (d : Draft) : Type 0 where
  pub content_type : length d.content_type.now ≤ 64
  pub front : length d.front.now ≤ 6
  pub content : length d.content.now ≤ 2 ^ 24
  pub certificates : length d.certificates.now ≤ 2 ^ 26
  pub signer : length d.signer.now ≤ 64
  -- all of them together
  pub attributes : length (concat (map (λ part. part.items) d.attributes.now)) ≤ 30000
