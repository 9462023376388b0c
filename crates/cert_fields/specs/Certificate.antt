-- Certificates: their values and their texts (RFC 5280, section 4.1), in this project's profile.
--
--   Certificate ::= SEQUENCE {
--     tbsCertificate TBSCertificate,
--     signatureAlgorithm AlgorithmIdentifier,
--     signatureValue BIT STRING }
--
--   TBSCertificate ::= SEQUENCE {
--     version [0] EXPLICIT Version DEFAULT v1,
--     serialNumber CertificateSerialNumber,
--     signature AlgorithmIdentifier,
--     issuer Name,
--     validity Validity,
--     subject Name,
--     subjectPublicKeyInfo SubjectPublicKeyInfo,
--     issuerUniqueID [1] IMPLICIT UniqueIdentifier OPTIONAL,
--     subjectUniqueID [2] IMPLICIT UniqueIdentifier OPTIONAL,
--     extensions [3] EXPLICIT Extensions OPTIONAL }
--
--   Version ::= INTEGER { v1(0), v2(1), v3(2) }
--   CertificateSerialNumber ::= INTEGER
--   Validity ::= SEQUENCE { notBefore Time, notAfter Time }
--   SubjectPublicKeyInfo ::= SEQUENCE { algorithm AlgorithmIdentifier, subjectPublicKey BIT STRING }
--   UniqueIdentifier ::= BIT STRING
--
-- Names and algorithm identifiers are SEQUENCEs that are kept whole, so that they can be compared octet for octet; what
-- they hold isn't looked at. A serial number has 1 to 20 octets, of either sign (4.1.2.2). Unique identifiers aren't
-- looked at, and stand in any version. Extensions need v3 (4.1.2.9); [3] holds one element of any tag, and what it says
-- is asked apart.
use Rattle.std.specs.Prelude.{ℕ, ◌≡◌, ◌≤◌, Bool, List, ◌++◌, ◌==◌, length, Option, IfSome, IsSome}
use Rattle.der_core.specs.BitString.{bits_contents, IsBits}
use Rattle.der_core.specs.Element.{enc, HasRoom, IsTagged}
use Rattle.der_core.specs.Integer.{IsInteger}
use Rattle.der_core.specs.Number.{number_contents}
use Rattle.der_core.specs.Shapes.{text_if, text_unless, IsOneElement}
use Rattle.der_core.specs.Time.{IsTime, time_text}
use Rattle.der_core.specs.declared.time_value.Time.{Time}

-- ---- values

-- A key, or a signature: how many bits of the last octet aren't used, and the octets.
abbrev pub BitString : Type 0
BitString = ℕ × List ℕ

-- The signed part of a certificate.
pub record SignedPart : Type 0 where
  -- 0, 1 or 2 for v1, v2 or v3
  pub version : ℕ
  -- the contents of the INTEGER
  pub serial : List ℕ
  -- the algorithm of the signature, a whole element
  pub algorithm : List ℕ
  -- names, as whole elements
  pub issuer : List ℕ
  pub subject : List ℕ
  -- the ends of the validity
  pub from : Time
  pub to : Time
  -- the algorithm of the key, a whole element, and the key
  pub key_algorithm : List ℕ
  pub key : BitString
  -- the contents of the unique identifiers
  pub issuer_unique : Option (List ℕ)
  pub subject_unique : Option (List ℕ)
  -- the element that [3] holds
  pub extensions : Option (List ℕ)

-- A certificate.
pub record Certificate : Type 0 where
  pub signed : SignedPart
  -- the algorithm of the signature as it stands outside of the signed part, a whole element
  pub algorithm : List ℕ
  pub signature : BitString

-- ---- texts

-- the DEFAULT version
abbrev pub is_v1 : ℕ → Bool
is_v1 version = version == 0

abbrev pub version_text : ℕ → List ℕ
version_text version = enc 0xA0 (enc 0x02 (number_contents version))

abbrev pub validity_text : Time × Time → List ℕ
validity_text ends = enc 0x30 (time_text ends.0 ++ time_text ends.1)

abbrev pub bits_text : BitString → List ℕ
bits_text bits = enc 0x03 (bits_contents bits)

-- the algorithm of the key, and the key
abbrev pub key_text : List ℕ × BitString → List ℕ
key_text key = enc 0x30 (key.0 ++ bits_text key.1)

-- unique identifiers and extensions
abbrev pub optional_parts : SignedPart → List ℕ
optional_parts s =
    text_if (enc 0x81) s.issuer_unique ++ (text_if (enc 0x82) s.subject_unique ++ text_if (enc 0xA3) s.extensions)

-- the contents of TBSCertificate
abbrev pub signed_contents : SignedPart → List ℕ
signed_contents s =
    text_unless is_v1 version_text s.version ++ (enc 0x02 s.serial ++ (s.algorithm ++ (s.issuer
    ++ (validity_text (s.from, s.to) ++ (s.subject ++ (key_text (s.key_algorithm, s.key) ++ optional_parts s))))))

-- what the signature is made over
abbrev pub signed_text : SignedPart → List ℕ
signed_text s = enc 0x30 (signed_contents s)

-- the contents of Certificate
abbrev pub certificate_contents : Certificate → List ℕ
certificate_contents c = signed_text c.signed ++ (c.algorithm ++ bits_text c.signature)

-- the whole of it
abbrev pub certificate_text : Certificate → List ℕ
certificate_text c = enc 0x30 (certificate_contents c)

-- ---- values that have a text

-- the contents of a serial number
pub record IsSerialNumber (octets : List ℕ) : Type 0 where
  pub integer : IsInteger octets
  pub most : length octets ≤ 20

-- the signed part has a text
pub record IsSignedPart (s : SignedPart) : Type 0 where
  pub version : s.version ≤ 2
  pub serial : IsSerialNumber s.serial
  pub algorithm : IsTagged 0x30 s.algorithm
  pub issuer : IsTagged 0x30 s.issuer
  pub subject : IsTagged 0x30 s.subject
  pub from : IsTime s.from
  pub to : IsTime s.to
  pub key_algorithm : IsTagged 0x30 s.key_algorithm
  pub key : IsBits s.key
  pub key_fits : HasRoom (s.key_algorithm ++ bits_text s.key)
  pub issuer_unique : IfSome s.issuer_unique HasRoom
  pub subject_unique : IfSome s.subject_unique HasRoom
  pub extensions : IfSome s.extensions IsOneElement
  pub extensions_fit : IfSome s.extensions HasRoom
  -- extensions stand in v3 alone
  pub third : IsSome s.extensions → s.version ≡ 2
  pub fits : HasRoom (signed_contents s)

-- the certificate has a text
pub record IsCertificate (c : Certificate) : Type 0 where
  pub signed : IsSignedPart c.signed
  pub algorithm : IsTagged 0x30 c.algorithm
  pub signature : IsBits c.signature
  pub fits : HasRoom (certificate_contents c)
