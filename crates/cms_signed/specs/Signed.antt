-- The octets around a content, down to the content itself (RFC 5652, sections 3, 5.1 and 5.2).
--
--   ContentInfo ::= SEQUENCE {
--     contentType ContentType,
--     content [0] EXPLICIT ANY DEFINED BY contentType }
--   SignedData ::= SEQUENCE {
--     version CMSVersion,
--     digestAlgorithms DigestAlgorithmIdentifiers,
--     encapContentInfo EncapsulatedContentInfo,
--     certificates [0] IMPLICIT CertificateSet OPTIONAL,
--     crls [1] IMPLICIT RevocationInfoChoices OPTIONAL,
--     signerInfos SignerInfos }
--   EncapsulatedContentInfo ::= SEQUENCE {
--     eContentType ContentType,
--     eContent [0] EXPLICIT OCTET STRING OPTIONAL }
use Rattle.std.specs.Prelude.{◌≡◌, ℕ, ◌<◌, ◌≤◌, ◌^◌, Bool, List, [], ◌∷◌, ◌++◌, length, Option, Some, IfSome}
use Rattle.std.specs.Prelude.{IsSome, IsTrue, ◌==◌, ◌||◌}
use Rattle.der_core.specs.Element.{enc, HasRoom}
use Rattle.der_core.specs.Number.{number_contents}
use Rattle.der_core.specs.Objects.{IsOid}
use Rattle.der_core.specs.Shapes.{IsOneElement, text_if}
use Rattle.der_core.specs.Asked.{Asked, asked}
use Rattle.cms_signed.specs.Cut.{signed_data}

-- ---- the texts

-- contentType, by its contents, and content, as one element (RFC 5652, section 3)
pub record ContentInfo : Type 0 where
  pub content_type : List ℕ
  pub content : List ℕ

abbrev pub info_contents : ContentInfo → List ℕ
info_contents i = enc 0x06 i.content_type ++ enc 0xA0 i.content

abbrev pub info_text : ContentInfo → List ℕ
info_text i = enc 0x30 (info_contents i)

abbrev pub IsInfo : ContentInfo → Type 0
IsInfo i = (IsOid i.content_type × (IsOneElement i.content × HasRoom i.content)) × HasRoom (info_contents i)

-- what stands behind encapContentInfo (section 5.1): the contents of certificates, crls and signerInfos
pub record Tail : Type 0 where
  pub certificates : Option (List ℕ)
  pub crls : Option (List ℕ)
  pub signer_infos : List ℕ

abbrev pub tail_text : Tail → List ℕ
tail_text t = text_if (enc 0xA0) t.certificates ++ (text_if (enc 0xA1) t.crls ++ enc 0x31 t.signer_infos)

abbrev pub IsTail : Tail → Type 0
IsTail t = IfSome t.certificates HasRoom × (IfSome t.crls HasRoom × HasRoom t.signer_infos)

-- version; the contents of digestAlgorithms and of encapContentInfo; and the octets behind that (section 5.1)
pub record SignedData : Type 0 where
  pub version : ℕ
  pub digest_algorithms : List ℕ
  pub encapsulated : List ℕ
  pub tail : List ℕ

abbrev pub signed_contents : SignedData → List ℕ
signed_contents s =
    enc 0x02 (number_contents s.version) ++ (enc 0x31 s.digest_algorithms ++ (enc 0x30 s.encapsulated ++ s.tail))

abbrev pub signed_text : SignedData → List ℕ
signed_text s = enc 0x30 (signed_contents s)

-- the versions that a SignedData can have (section 5.1)
abbrev pub is_version : ℕ → Bool
is_version n = (n == 1) || ((n == 3) || ((n == 4) || (n == 5)))

abbrev pub IsSigned : SignedData → Type 0
IsSigned s =
    (((s.version < 2 ^ 128) × IsTrue (is_version s.version)) × HasRoom (number_contents s.version))
    × (HasRoom s.digest_algorithms × (HasRoom s.encapsulated × ((t : Tail) × IsTail t × (s.tail ≡ tail_text t))))

-- eContentType, by its contents, and the value octets of eContent (section 5.2)
pub record EncapsulatedContentInfo : Type 0 where
  pub content_type : List ℕ
  pub content : Option (List ℕ)

abbrev pub content_text : List ℕ → List ℕ
content_text content = enc 0xA0 (enc 0x04 content)

abbrev pub encapsulated_contents : EncapsulatedContentInfo → List ℕ
encapsulated_contents e = enc 0x06 e.content_type ++ text_if content_text e.content

abbrev pub IsEncapsulated : EncapsulatedContentInfo → Type 0
IsEncapsulated e = IsOid e.content_type × IfSome e.content (λ content. HasRoom content × HasRoom (enc 0x04 content))

-- ---- the conditions

-- the item is a ContentInfo of which this holds
abbrev pub HasInfo : List ℕ → (ContentInfo → Type 0) → Type 0
HasInfo item P = (i : ContentInfo) × IsInfo i × (item ≡ info_text i) × P i

-- its content is a SignedData of which this holds
abbrev pub HasSigned : List ℕ → (SignedData → Type 0) → Type 0
HasSigned item P = HasInfo item
    (λ i. (s : SignedData) × (IsSigned s × HasRoom (signed_contents s)) × (i.content ≡ signed_text s) × P s)

-- and its encapContentInfo has its shape, and this holds of both
abbrev pub HasEncapsulated : List ℕ → (SignedData → EncapsulatedContentInfo → Type 0) → Type 0
HasEncapsulated item P = HasSigned item (λ s. (e : EncapsulatedContentInfo) × IsEncapsulated e
    × (s.encapsulated ≡ encapsulated_contents e) × P s e)

-- the identifiers id-encryptedData (RFC 5652, section 8) and id-ct-compressedData (RFC 3274, section 1.1)
abbrev pub encrypted_data : List ℕ
encrypted_data = 0x2A ∷ 0x86 ∷ 0x48 ∷ 0x86 ∷ 0xF7 ∷ 0x0D ∷ 0x01 ∷ 0x07 ∷ 0x06 ∷ []

abbrev pub compressed_data : List ℕ
compressed_data = 0x2A ∷ 0x86 ∷ 0x48 ∷ 0x86 ∷ 0xF7 ∷ 0x0D ∷ 0x01 ∷ 0x09 ∷ 0x10 ∷ 0x01 ∷ 0x09 ∷ []

-- the conditions 3 to 11 of an item with a content of this type, in their order: those that the octets around the
-- content decide; the limit of 2 ^ 20 octets behind encapContentInfo is this project's
abbrev pub outer_conditions : List ℕ → List ℕ → List Asked
outer_conditions kind item =
    asked 3 (HasInfo item (λ i. Unit {0}))
    ∷ asked 4 (HasInfo item (λ i. i.content_type ≡ signed_data))
    ∷ asked 5 (HasSigned item (λ s. Unit {0}))
    ∷ asked 6 (HasEncapsulated item (λ s e. Unit {0}))
    ∷ asked 7 (HasEncapsulated item (λ s e. e.content_type ≡ encrypted_data → ⊥))
    ∷ asked 8 (HasEncapsulated item (λ s e. e.content_type ≡ compressed_data → ⊥))
    ∷ asked 9 (HasEncapsulated item (λ s e. e.content_type ≡ kind))
    ∷ asked 10 (HasEncapsulated item (λ s e. IsSome e.content))
    ∷ asked 11 (HasEncapsulated item (λ s e. length s.tail ≤ 1048576))
    ∷ []

-- the value octets of the item's eContent, and the octets behind its encapContentInfo
abbrev pub IsOuter : List ℕ → List ℕ → List ℕ → Type 0
IsOuter item content tail = HasEncapsulated item (λ s e. (e.content ≡ Some content) × (s.tail ≡ tail))
