-- Signed data of one signer, as one value: an item of which the conditions 3 to 18 hold is the text of one
-- (RFC 5652, sections 3 and 5).
use Rattle.std.specs.Prelude.{◌≡◌, ℕ, ◌≤◌, Bool, List, length, Option, Some, IfSome, option_map}
use Rattle.std.specs.List.{AllByRecursion}
use Rattle.der_core.specs.Attribute.{Attribute, IsAttribute}
use Rattle.der_core.specs.Element.{HasRoom}
use Rattle.attribute_set.specs.AttributeSet.{set_contents, IsAttributeSet}
use Rattle.cert_fields.specs.Algorithms.{digest_algorithm, signature_algorithm}
use Rattle.cms_signed.specs.Certificates.{CertificateChoice, choices_text, IsChoice}
use Rattle.cms_signed.specs.Cut.{signed_data}
use Rattle.cert_fields.specs.Sid.{SignerIdentifier}
use Rattle.cms_signed.specs.Signed.{ContentInfo, info_text, IsInfo, SignedData, signed_contents, signed_text, IsSigned}
use Rattle.cms_signed.specs.Signed.{EncapsulatedContentInfo, encapsulated_contents, IsEncapsulated}
use Rattle.cms_signed.specs.Signed.{Tail, tail_text, IsTail, encrypted_data, compressed_data}
use Rattle.cms_signed.specs.Signer.{SignerInfo, IsSignerInfo, signer_text, signed_attributes_text}

-- ---- values

-- a signer by HSS/LMS over SHA-256 (section 5.3)
pub record Signer : Type 0 where
  pub version : ℕ
  pub sid : SignerIdentifier
  -- whether the parameters of the digest algorithm are NULL, or there are none
  pub has_null : Bool
  pub signed_attributes : List Attribute
  pub signature : List ℕ
  pub unsigned_attributes : Option (List Attribute)

-- signed data of one signer (sections 5.1 and 5.2)
pub record Message : Type 0 where
  pub version : ℕ
  -- the contents of digestAlgorithms, which aren't looked at
  pub digest_algorithms : List ℕ
  -- eContentType by its contents, and the value octets of eContent
  pub content_type : List ℕ
  pub content : List ℕ
  pub certificates : Option (List CertificateChoice)
  -- the contents of crls, which aren't looked at
  pub crls : Option (List ℕ)
  pub signer : Signer

-- ---- texts

abbrev pub message_signer : Signer → SignerInfo
message_signer s = record {
  version = s.version;
  sid = s.sid;
  digest_algorithm = digest_algorithm s.has_null;
  signed_attributes = Some (signed_attributes_text s.signed_attributes);
  signature_algorithm = signature_algorithm;
  signature = s.signature;
  unsigned_attributes = option_map set_contents s.unsigned_attributes;
}

abbrev pub message_tail : Message → Tail
message_tail m = record {
  certificates = option_map choices_text m.certificates;
  crls = m.crls;
  signer_infos = signer_text (message_signer m.signer);
}

abbrev pub message_encapsulated : Message → EncapsulatedContentInfo
message_encapsulated m = record { content_type = m.content_type; content = Some m.content }

abbrev pub message_data : Message → SignedData
message_data m = record {
  version = m.version;
  digest_algorithms = m.digest_algorithms;
  encapsulated = encapsulated_contents (message_encapsulated m);
  tail = tail_text (message_tail m);
}

abbrev pub message_info : Message → ContentInfo
message_info m = record { content_type = signed_data; content = signed_text (message_data m) }

-- the whole of it
abbrev pub message_text : Message → List ℕ
message_text m = info_text (message_info m)

-- ---- values that have a text

-- a message of a content of this type that has a text
pub record IsMessage (kind : List ℕ) (m : Message) : Type 0 where
  pub info : IsInfo (message_info m)
  pub signed : IsSigned (message_data m)
  pub signed_fits : HasRoom (signed_contents (message_data m))
  pub encapsulated : IsEncapsulated (message_encapsulated m)
  pub content_type : m.content_type ≡ kind
  pub not_encrypted : kind ≡ encrypted_data → ⊥
  pub not_compressed : kind ≡ compressed_data → ⊥
  pub tail : IsTail (message_tail m)
  pub most : length (tail_text (message_tail m)) ≤ 1048576
  pub certificates : IfSome m.certificates (AllByRecursion IsChoice)
  pub signer : IsSignerInfo (message_signer m.signer)
  pub signed_attributes : IsAttributeSet m.signer.signed_attributes
  pub unsigned_attributes : IfSome m.signer.unsigned_attributes (AllByRecursion IsAttribute)
