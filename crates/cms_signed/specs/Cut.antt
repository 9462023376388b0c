-- Where the content of a firmware package stands in its item (RFC 5652, sections 3, 5.1 and 5.2; RFC 4108, section
-- 2.1.5), as soon as the octets before it have come.
use Rattle.std.specs.Prelude.{◌≡◌, ℕ, ◌+◌, ◌<◌, ◌≤◌, ◌^◌, Bool, true, List, [], ◌∷◌, ◌++◌, length, IsTrue}
use Rattle.std.specs.Prelude.{bytes_eq, is_some}
use Rattle.der_core.specs.Element.{enc, IsElement}
use Rattle.der_core.specs.Head.{head_octets, IsHead}
use Rattle.der_core.specs.LeafReading.{integer_of}

-- a part of the head of a content: the head of an element of this tag in which what follows stands, or a whole
-- element of this tag whose contents pass a test
pub data HeadPart : Type 0 where
  Opens : (tag : ℕ) → HeadPart
  Has : (tag : ℕ) (test : List ℕ → Bool) → HeadPart

-- octets that are this part, where the element around it has so many octets left; the part ends within it, and leaves
-- so many octets to what follows in the innermost element
abbrev pub IsPart : HeadPart → ℕ → List ℕ → ℕ → Type 0
IsPart (Opens tag) left octets after =
    IsHead tag after × (length octets + after ≤ left) × (octets ≡ head_octets tag after)
IsPart (Has tag test) left octets after =
    (contents : List ℕ) × IsElement tag contents × IsTrue (test contents) × (length octets + after ≡ left)
    × (octets ≡ enc tag contents)

-- octets that are these parts, one after the other
abbrev pub AreParts : List HeadPart → ℕ → List ℕ → ℕ → Type 0
AreParts [] left octets after = (octets ≡ []) × (after ≡ left)
AreParts (part ∷ parts) left octets after =
    (front : List ℕ) × (between : ℕ) × (rest : List ℕ) × IsPart part left front between
    × AreParts parts between rest after × (octets ≡ front ++ rest)

-- the identifiers id-signedData (RFC 5652, section 5.1) and id-ct-firmwarePackage (RFC 4108, section 2.1.5), by their
-- contents
abbrev pub signed_data : List ℕ
signed_data = 0x2A ∷ 0x86 ∷ 0x48 ∷ 0x86 ∷ 0xF7 ∷ 0x0D ∷ 0x01 ∷ 0x07 ∷ 0x02 ∷ []

abbrev pub firmware_package : List ℕ
firmware_package = 0x2A ∷ 0x86 ∷ 0x48 ∷ 0x86 ∷ 0xF7 ∷ 0x0D ∷ 0x01 ∷ 0x09 ∷ 0x10 ∷ 0x01 ∷ 0x10 ∷ []

-- the parts before a content: ContentInfo, its type, [0]; SignedData, its version, its digest algorithms;
-- encapContentInfo, its type, [0]; and the content's own head. The version is any INTEGER: that its test says so is the
-- law `a_version_is_an_integer`.
abbrev pub before_content : List HeadPart
before_content =
    Opens 0x30 ∷ Has 0x06 (bytes_eq signed_data) ∷ Opens 0xA0
    ∷ Opens 0x30 ∷ Has 0x02 (λ contents. is_some (integer_of contents)) ∷ Has 0x31 (λ contents. true)
    ∷ Opens 0x30 ∷ Has 0x06 (bytes_eq firmware_package) ∷ Opens 0xA0 ∷ Opens 0x04 ∷ []

-- the octets are a head: all that stands before a content of so many octets. Around the whole item stands nothing,
-- and 2 ^ 33 is more than any element has.
abbrev pub IsContentHead : List ℕ → ℕ → Type 0
IsContentHead octets size = AreParts before_content (2 ^ 33) octets size

-- the item's octets begin with a head, so that its content stands behind so many octets, and has so many
pub record HasCut (item : List ℕ) (place size : ℕ) : Type 0 where
  pub head : List ℕ
  pub rest : List ℕ
  pub before : IsContentHead head size
  pub text : item ≡ head ++ rest
  pub placed : place ≡ length head

-- the octet that comes behind these octets of an item is one of its content
abbrev pub BeginsContent : List ℕ → Type 0
BeginsContent item = (place : ℕ) × (size : ℕ) × HasCut item place size × (length item < place + size)
