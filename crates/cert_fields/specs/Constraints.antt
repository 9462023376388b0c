-- Content constraints: their values and their texts (RFC 6010, section 3), in this project's profile.
--
--   CMSContentConstraints ::= SEQUENCE SIZE (1..MAX) OF ContentTypeConstraint
--
--   ContentTypeConstraint ::= SEQUENCE {
--     contentType OBJECT IDENTIFIER,
--     canSource ContentTypeGeneration DEFAULT canSource,
--     attrConstraints AttrConstraintList OPTIONAL }
--
--   ContentTypeGeneration ::= ENUMERATED { canSource(0), cannotSource(1) }
--
--   AttrConstraintList ::= SEQUENCE SIZE (1..MAX) OF AttrConstraint
--
--   AttrConstraint ::= SEQUENCE {
--     attrType AttributeType,
--     attrValues SET SIZE (1..MAX) OF AttributeValue }
--
-- An AttrConstraint is an attribute with at least one value. Its values are elements of any kind, in any order, and one
-- may stand twice. That no content type stands twice, nor an attribute type in one entry, is this project's own.
use Rattle.std.specs.Prelude.{ℕ, ◌<◌, ◌==◌, Bool, List, [], ◌∷◌, ◌++◌, length, map, bytes_eq, if◌then◌else◌}
use Rattle.std.specs.List.{AllByRecursion, IsDistinct, flat_map}
use Rattle.der_core.specs.Attribute.{Attribute, attribute_text, IsAttribute}
use Rattle.der_core.specs.Element.{enc, HasRoom}
use Rattle.der_core.specs.Objects.{IsOid}
use Rattle.der_core.specs.Shapes.{text_unless}

-- ---- values

-- An entry, ContentTypeConstraint.
pub record ContentConstraint : Type 0 where
  -- the contents of the OBJECT IDENTIFIER of a content type
  pub content : List ℕ
  pub can_source : Bool
  -- the constrained attributes with their listed values; none where attrConstraints is absent
  pub attributes : List Attribute

-- ---- texts

-- the DEFAULT of canSource
abbrev pub is_source : Bool → Bool
is_source can_source = can_source

abbrev pub source_number : Bool → ℕ
source_number can_source = if can_source then 0 else 1

abbrev pub source_text : Bool → List ℕ
source_text can_source = enc 0x0A (source_number can_source ∷ [])

-- no attribute is constrained
abbrev pub is_unconstrained : List Attribute → Bool
is_unconstrained attributes = length attributes == 0

abbrev pub attributes_text : List Attribute → List ℕ
attributes_text attributes = enc 0x30 (flat_map attribute_text attributes)

-- the contents of ContentTypeConstraint
abbrev pub entry_contents : ContentConstraint → List ℕ
entry_contents e =
    enc 0x06 e.content
    ++ (text_unless is_source source_text e.can_source ++ text_unless is_unconstrained attributes_text e.attributes)

abbrev pub entry_text : ContentConstraint → List ℕ
entry_text e = enc 0x30 (entry_contents e)

-- the whole of it
abbrev pub constraints_text : List ContentConstraint → List ℕ
constraints_text entries = enc 0x30 (flat_map entry_text entries)

-- ---- values that have a text

-- an attribute with at least one value
pub record IsConstrained (a : Attribute) : Type 0 where
  pub attribute : IsAttribute a
  pub some : 0 < length a.values

-- an entry, but for types that stand twice
pub record IsEntry (e : ContentConstraint) : Type 0 where
  pub content : IsOid e.content
  pub attributes : AllByRecursion IsConstrained e.attributes
  pub fits : HasRoom (entry_contents e)

-- no attribute type stands twice in the entry
abbrev pub HasOwnTypes : ContentConstraint → Type 0
HasOwnTypes e = IsDistinct bytes_eq (map (λ a. a.kind) e.attributes)

-- entries that have a text
pub record AreConstraints (entries : List ContentConstraint) : Type 0 where
  pub some : 0 < length entries
  pub each : AllByRecursion IsEntry entries
  -- no content type stands twice
  pub contents : IsDistinct bytes_eq (map (λ e. e.content) entries)
  pub attributes : AllByRecursion HasOwnTypes entries
  pub fits : HasRoom (flat_map entry_text entries)
