-- What the content constraints of one member of a path permit (RFC 6010, section 3), as facts. The tests that tell them
-- are in specs/Tests.
use Rattle.std.specs.Prelude.{◌≡◌, ℕ, List, [], ◌∷◌, Option, Some, None, IsTrue, Contains, bytes_eq}
use Rattle.std.specs.List.{AllByRecursion, find}
use Rattle.der_core.specs.Attribute.{Attribute}
use Rattle.der_core.specs.Element.{AreOctets}
use Rattle.der_core.specs.Shapes.{any_element}
use Rattle.attribute_set.specs.Items.{items_of}
use Rattle.cert_fields.specs.Constraints.{ContentConstraint}
use Rattle.constraint_meet.specs.Covers.{Covers}

-- ---- the entry that decides

-- 1.2.840.113549.1.9.16.1.0, id-ct-anyContentType, which stands for every content type (RFC 6010, section 3)
abbrev pub any_content : List ℕ
any_content = 0x2A ∷ 0x86 ∷ 0x48 ∷ 0x86 ∷ 0xF7 ∷ 0x0D ∷ 0x01 ∷ 0x09 ∷ 0x10 ∷ 0x01 ∷ 0x00 ∷ []

-- the entry of this content type; no type stands twice in constraints that were read
abbrev pub entry_for : List ℕ → List ContentConstraint → Option ContentConstraint
entry_for content entries = find (λ entry. bytes_eq entry.content content) entries

-- the first of two that is there
abbrev pub or_else : Option ContentConstraint → Option ContentConstraint → Option ContentConstraint
or_else (Some entry) other = Some entry
or_else None other = other

-- the entry that decides for a content type: its own, else that of anyContentType
abbrev pub deciding : List ℕ → List ContentConstraint → Option ContentConstraint
deciding content entries = or_else (entry_for content entries) (entry_for any_content entries)

-- ---- attributes

-- the values that the contents of a SET hold, as whole elements; that they are those is the law `values_are_elements`
abbrev pub values_in : List ℕ → List (List ℕ)
values_in octets = items_of any_element octets

-- a value that is listed for a constrained attribute covers this value
abbrev pub IsCovered : Attribute → List ℕ → Type 0
IsCovered constrained value =
    (listed : List ℕ) × Contains (values_in constrained.values) listed × Covers constrained.kind listed value

-- an attribute of the constrained type has values that are covered, each of them
abbrev pub Meets : Attribute → Attribute → Type 0
Meets attribute constrained =
    constrained.kind ≡ attribute.kind → AllByRecursion (IsCovered constrained) (values_in attribute.values)

-- an attribute meets all that an entry asks; an attribute that is absent is asked nothing
abbrev pub Passes : ContentConstraint → Attribute → Type 0
Passes entry attribute = AllByRecursion (Meets attribute) entry.attributes

-- ---- one member

-- There is an entry that decides, it says canSource, and each attribute passes. Constraints without such an entry permit
-- nothing.
pub record Permits (content : List ℕ) (attributes : List Attribute) (entries : List ContentConstraint) : Type 0 where
  pub entry : ContentConstraint
  pub decides : deciding content entries ≡ Some entry
  pub can_source : IsTrue entry.can_source
  pub pass : AllByRecursion (Passes entry) attributes

-- ---- a path

-- a certificate without the extension permits nothing
abbrev pub CertificatePermits : List ℕ → List Attribute → Option (List ContentConstraint) → Type 0
CertificatePermits content attributes None = ⊥
CertificatePermits content attributes (Some entries) = Permits content attributes entries

-- an anchor without it permits everything
abbrev pub AnchorPermits : List ℕ → List Attribute → Option (List ContentConstraint) → Type 0
AnchorPermits content attributes None = Unit {0}
AnchorPermits content attributes (Some entries) = Permits content attributes entries

-- Every member of a path permits, and its anchor: the constraints of the certificates, and those of the anchor. That two
-- kinds of values are compared by what they cover is this project's own, and so are the two rules on a missing extension.
pub record Within (content : List ℕ) (attributes : List Attribute) (certificates : List (Option (List ContentConstraint)))
    (anchor : Option (List ContentConstraint)) : Type 0 where
  pub members : AllByRecursion (CertificatePermits content attributes) certificates
  pub above : AnchorPermits content attributes anchor

-- ---- octets

-- attributes whose values are octets, as all are that were read
abbrev pub AreOfOctets : List Attribute → Type 0
AreOfOctets attributes = AllByRecursion (λ a. AreOctets a.values) attributes

abbrev pub ListOctets : List ContentConstraint → Type 0
ListOctets entries = AllByRecursion (λ e. AreOfOctets e.attributes) entries
