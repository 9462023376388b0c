-- What a signer says (RFC 5652, sections 5.3 and 5.4).
--
--   SignerInfo ::= SEQUENCE {
--     version CMSVersion,
--     sid SignerIdentifier,
--     digestAlgorithm DigestAlgorithmIdentifier,
--     signedAttrs [0] IMPLICIT SignedAttributes OPTIONAL,
--     signatureAlgorithm SignatureAlgorithmIdentifier,
--     signature SignatureValue,
--     unsignedAttrs [1] IMPLICIT UnsignedAttributes OPTIONAL }
--
--   SignatureValue ::= OCTET STRING
use Rattle.std.specs.Prelude.{ℕ, Bool, List, ◌++◌, Option, IfSome, IsTrue, ◌==◌, ◌||◌}
use Rattle.der_core.specs.Attribute.{Attribute}
use Rattle.der_core.specs.Element.{enc, HasRoom, IsTagged}
use Rattle.der_core.specs.Number.{number_contents}
use Rattle.der_core.specs.Shapes.{text_if}
use Rattle.attribute_set.specs.AttributeSet.{set_contents}
use Rattle.cert_fields.specs.Sid.{SignerIdentifier, sid_text, IsSid}

pub record SignerInfo : Type 0 where
  pub version : ℕ
  pub sid : SignerIdentifier
  -- a SEQUENCE, whole
  pub digest_algorithm : List ℕ
  -- the element [0], whole
  pub signed_attributes : Option (List ℕ)
  -- a SEQUENCE, whole
  pub signature_algorithm : List ℕ
  -- the octets of the OCTET STRING
  pub signature : List ℕ
  -- the contents of [1]
  pub unsigned_attributes : Option (List ℕ)

-- the contents of the SEQUENCE
abbrev pub signer_contents : SignerInfo → List ℕ
signer_contents s =
    enc 0x02 (number_contents s.version) ++ (sid_text s.sid ++ (s.digest_algorithm
    ++ (text_if (λ octets. octets) s.signed_attributes ++ (s.signature_algorithm
    ++ (enc 0x04 s.signature ++ text_if (enc 0xA1) s.unsigned_attributes)))))

-- the whole of it
abbrev pub signer_text : SignerInfo → List ℕ
signer_text s = enc 0x30 (signer_contents s)

-- the versions that a SignerInfo can have
abbrev pub is_signer_version : ℕ → Bool
is_signer_version n = (n == 1) || (n == 3)

-- a SignerInfo that has a text
pub record IsSignerInfo (s : SignerInfo) : Type 0 where
  pub version : IsTrue (is_signer_version s.version)
  pub sid : IsSid s.sid
  pub digest_algorithm : IsTagged 0x30 s.digest_algorithm
  pub signed_attributes : IfSome s.signed_attributes (IsTagged 0xA0)
  pub signature_algorithm : IsTagged 0x30 s.signature_algorithm
  pub signature : HasRoom s.signature
  pub unsigned_attributes : IfSome s.unsigned_attributes HasRoom
  pub fits : HasRoom (signer_contents s)

-- signed attributes as they stand in a SignerInfo, with the tag of [0]
abbrev pub signed_attributes_text : List Attribute → List ℕ
signed_attributes_text attributes = enc 0xA0 (set_contents attributes)

-- what the signature is made over: the same with the tag of a SET OF (section 5.4)
abbrev pub to_be_signed : List Attribute → List ℕ
to_be_signed attributes = enc 0x31 (set_contents attributes)
