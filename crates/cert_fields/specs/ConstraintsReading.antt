-- The reading of content constraints, by the shapes of their text.
use Rattle.std.specs.Prelude.{ℕ, ◌==◌, Bool, true, false, List, [], ◌∷◌, length, map, bytes_eq, Some, None}
use Rattle.std.specs.Prelude.{if◌then◌else◌, not}
use Rattle.std.specs.List.{AllByRecursion, IsDistinct}
use Rattle.std.specs.Option.{unwrap_or}
use Rattle.der_core.specs.Attribute.{Attribute}
use Rattle.der_core.specs.AttributeReading.{attribute_of}
use Rattle.der_core.specs.Reading.{◌>>?◌, oid_of}
use Rattle.der_core.specs.Shapes.{Front, Whole, element, alone, before, optional, mapped, tested, listed, any_element}
use Rattle.der_core.specs.Shapes.{defaulted, anything}
use Rattle.attribute_set.specs.Items.{items_of, AreItems}
use Rattle.cert_fields.specs.Constraints.{ContentConstraint, is_source, HasOwnTypes}

-- an identifier at the front
unfoldable pub type_at : Front (List ℕ)
type_at = element 0x06 oid_of

-- whether canSource is said, by the number of the ENUMERATED
unfoldable pub source_of : Whole Bool
source_of [] = None
source_of (n ∷ []) = if n == 0 then Some true else (if n == 1 then Some false else None)
source_of (n ∷ (o ∷ os)) = None

unfoldable pub source_at : Front Bool
source_at = element 0x0A source_of

-- there is a value
abbrev pub has_values : Attribute → Bool
has_values a = not (length a.values == 0)

-- the constrained attribute that the element at the front is
unfoldable pub constrained_at : Front Attribute
constrained_at bytes = any_element bytes >>? λ x. tested has_values attribute_of x.0 >>? λ a. Some (a, x.1)

-- what octets are, where there are any
abbrev pub some_octets : {V : Type 0} → Whole V → Whole V
some_octets whole bytes = if length bytes == 0 then None else whole bytes

-- the contents of a SEQUENCE of any kind, where there are any
unfoldable pub list_of : Whole (List ℕ)
list_of = alone (element 0x30 (some_octets anything))

-- the constrained attributes
unfoldable pub attributes_list_of : Whole (List Attribute)
attributes_list_of = alone (element 0x30 (some_octets (listed constrained_at)))

-- the constrained attributes, where any octets are left
unfoldable pub attributes_of : Whole (List Attribute)
attributes_of =
    mapped (λ o. unwrap_or o []) (optional attributes_list_of)

abbrev pub entry_value : List ℕ × (Bool × List Attribute) → ContentConstraint
entry_value x = record { content = x.0; can_source = x.1.0; attributes = x.1.1 }

unfoldable pub entry_of : Whole ContentConstraint
entry_of = mapped entry_value (before type_at (defaulted 0x0A is_source true source_at attributes_of))

unfoldable pub entry_at : Front ContentConstraint
entry_at = element 0x30 entry_of

-- entries, one after the other, of which types may stand twice
unfoldable pub entries_of : Whole (List ContentConstraint)
entries_of = alone (element 0x30 (some_octets (listed entry_at)))

-- octets that are entries, one after the other, of which no content type stands twice, nor an attribute type in one
pub record HaveOwnContents (octets : List ℕ) : Type 0 where
  pub items : AreItems entry_at octets
  pub contents : IsDistinct bytes_eq (map (λ e. e.content) (items_of entry_at octets))
  pub types : AllByRecursion HasOwnTypes (items_of entry_at octets)
