-- Conditions on the octets behind encapContentInfo: of these octets alone, and of the item in which they stand.
use Rattle.std.specs.Prelude.{◌≡◌, ℕ, Bool, List, [], ◌∷◌, ◌++◌, Some, IfSome}
use Rattle.der_core.specs.Asked.{Asked, asked}
use Rattle.der_core.specs.Attribute.{Attribute}
use Rattle.der_core.specs.Element.{enc, IsElement}
use Rattle.attribute_set.specs.AttributeSet.{IsAttributeSet, AreAttributes}
use Rattle.cert_fields.specs.Algorithms.{digest_algorithm, signature_algorithm}
use Rattle.cms_signed.specs.Certificates.{AreChoices}
use Rattle.cms_signed.specs.Signed.{HasEncapsulated, Tail, IsTail, tail_text, outer_conditions}
use Rattle.cms_signed.specs.Signer.{SignerInfo, IsSignerInfo, signer_text, signed_attributes_text}

-- a condition, by its number and by what it says of these octets
pub record TailAsked : Type 1 where
  pub number : ℕ
  pub holds : List ℕ → Type 0

abbrev pub tail_asked : ℕ → (List ℕ → Type 0) → TailAsked
tail_asked number holds = record { number = number; holds = holds }

-- asked of the octets
abbrev pub on_tail : List TailAsked → List ℕ → List Asked
on_tail [] tail = []
on_tail (c ∷ more) tail = asked c.number (c.holds tail) ∷ on_tail more tail

-- asked of the item
abbrev pub in_item : List TailAsked → List ℕ → List Asked
in_item [] item = []
in_item (c ∷ more) item = asked c.number (HasEncapsulated item (λ s e. c.holds s.tail)) ∷ in_item more item

-- what stands in these octets, of which this holds
abbrev pub HasTail : List ℕ → (Tail → Type 0) → Type 0
HasTail octets P = (t : Tail) × IsTail t × (octets ≡ tail_text t) × P t

-- and signerInfos holds exactly one SignerInfo, and this holds of it
abbrev pub HasSigner : List ℕ → (SignerInfo → Type 0) → Type 0
HasSigner octets P =
    HasTail octets (λ t. (s : SignerInfo) × IsSignerInfo s × (t.signer_infos ≡ signer_text s) × P s)

-- the conditions 12 to 18, in their order: those on certificates and on the signer
abbrev pub tail_conditions : List TailAsked
tail_conditions =
    tail_asked 12 (λ octets. HasTail octets (λ t. IfSome t.certificates AreChoices))
    ∷ tail_asked 13 (λ octets. HasTail octets
    (λ t. (contents : List ℕ) × IsElement 0x30 contents × (t.signer_infos ≡ enc 0x30 contents)))
    ∷ tail_asked 14 (λ octets. HasSigner octets (λ s. Unit {0}))
    ∷ tail_asked 15 (λ octets. HasSigner octets (λ s. IfSome s.unsigned_attributes AreAttributes))
    ∷ tail_asked 16 (λ octets. HasSigner octets (λ s. (attributes : List Attribute) × IsAttributeSet attributes
    × (s.signed_attributes ≡ Some (signed_attributes_text attributes))))
    ∷ tail_asked 17 (λ octets. HasSigner octets
    (λ s. (has_null : Bool) × (s.digest_algorithm ≡ digest_algorithm has_null)))
    ∷ tail_asked 18 (λ octets. HasSigner octets (λ s. s.signature_algorithm ≡ signature_algorithm))
    ∷ []

-- the conditions 3 to 18 of an item with a content of this type, in their order
abbrev pub signed_conditions : List ℕ → List ℕ → List Asked
signed_conditions kind item = outer_conditions kind item ++ in_item tail_conditions item
