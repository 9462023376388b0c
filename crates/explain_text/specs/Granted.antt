-- What the members of a path let through together, by content type and by attribute (RFC 6010, section 3).
use Rattle.std.specs.Prelude.{◌≡◌, ℕ, List, [], ◌∷◌, Option, Some, None, Contains, if◌then◌else◌}
use Rattle.std.specs.List.{flat_map}
use Rattle.der_core.specs.Attribute.{Attribute}
use Rattle.der_core.specs.Reading.{◌>>?◌}
use Rattle.cert_fields.specs.Constraints.{ContentConstraint}
use Rattle.constraint_meet.specs.Grants.{Members}
use Rattle.constraint_meet.specs.Permits.{any_content, deciding, values_in, IsCovered}

-- ---- content types

-- an entry of a member is of this content type
pub record IsNamed (members : Members) (content : List ℕ) : Type 0 where
  pub entries : List ContentConstraint
  pub member : Contains members entries
  pub entry : ContentConstraint
  pub one : Contains entries entry
  pub is : entry.content ≡ content

-- one that isn't anyContentType
abbrev pub IsOwnType : Members → List ℕ → Type 0
IsOwnType members content = IsNamed members content × (content ≡ any_content → ⊥)

-- the entry of a member that decides for a content type, where it says canSource
abbrev pub source_of : List ℕ → List ContentConstraint → Option ContentConstraint
source_of content entries = deciding content entries >>? λ entry. if entry.can_source then Some entry else None

-- those of all members, where each has one
abbrev pub sources_of : List ℕ → Members → Option (List ContentConstraint)
sources_of content [] = Some []
sources_of content (entries ∷ more) =
    source_of content entries >>? λ entry. sources_of content more >>? λ others. Some (entry ∷ others)

-- ---- attributes

-- the attributes that entries constrain, with their listed values
abbrev pub constrained_by : List ContentConstraint → List Attribute
constrained_by entries = flat_map (λ entry. entry.attributes) entries

-- an attribute of this type is constrained
abbrev pub IsKind : List Attribute → List ℕ → Type 0
IsKind constrained kind = (attribute : Attribute) × Contains constrained attribute × (attribute.kind ≡ kind)

-- A value that is listed for this type of attributes, and that each list for it covers. No type stands twice in an entry,
-- so each list is an entry's.
pub record IsShared (constrained : List Attribute) (kind value : List ℕ) : Type 0 where
  pub attribute : Attribute
  pub one : Contains constrained attribute
  pub is : attribute.kind ≡ kind
  pub listed : Contains (values_in attribute.values) value
  pub covered : (other : Attribute) → Contains constrained other → other.kind ≡ kind → IsCovered other value
