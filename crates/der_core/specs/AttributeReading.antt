-- Reading an attribute. That it is the attribute whose text the octets are is proved in the contract of `read_attr`.
use Rattle.std.specs.Prelude.{ℕ, Bool, List, length, ◌==◌, if◌then◌else◌, Some, None, is_some}
use Rattle.der_core.specs.Attribute.{Attribute}
use Rattle.der_core.specs.Reading.{◌>>?◌, front_of, oid_of}
use Rattle.der_core.specs.Shapes.{Front, Whole, element, alone, before, mapped, listed, any_element}

-- elements one after the other, to the end
unfoldable pub are_elements : List ℕ → Bool
are_elements octets = is_some (listed any_element octets)

-- octets that are such elements
abbrev pub elements_of : Whole (List ℕ)
elements_of octets = if are_elements octets then Some octets else None

-- the type, and the contents of the SET
unfoldable pub attribute_fields_of : Whole Attribute
attribute_fields_of =
    mapped (λ x. record { kind = x.0; values = x.1 }) (before (element 0x06 oid_of) (alone (element 0x31 elements_of)))

-- the type and the values, and nothing after them
unfoldable pub attribute_of : Whole Attribute
attribute_of = alone (element 0x30 attribute_fields_of)

-- the attribute that the element at the front is
unfoldable pub attribute_at : Front Attribute
attribute_at bytes = any_element bytes >>? λ x. attribute_of x.0 >>? λ a. Some (a, x.1)

-- the tag and the contents of an element, and nothing after it
unfoldable pub one_element_of : Whole (ℕ × List ℕ)
one_element_of octets = front_of octets >>? λ x. if length x.1.1 == 0 then Some (x.0, x.1.0) else None
