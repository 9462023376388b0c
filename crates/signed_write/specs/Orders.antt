-- Attributes in the order in which DER has them (X.690, section 11.6; RFC 5652, section 5.3).
use Rattle.std.specs.Prelude.{Bool, List, [], ◌∷◌, if◌then◌else◌}
use Rattle.std.specs.Ordering.{is_lt, nat_cmp}
use Rattle.std.specs.Cmp.Lexicographic.{slice_cmp}
use Rattle.der_core.specs.Attribute.{Attribute, attribute_text}

-- an attribute is before another: by the first octet in which their texts differ
abbrev pub is_before : Attribute → Attribute → Bool
is_before a b = is_lt (slice_cmp nat_cmp (attribute_text a) (attribute_text b))

-- an attribute in its place among others
abbrev pub placed : Attribute → List Attribute → List Attribute
placed a [] = a ∷ []
placed a (b ∷ bs) = if is_before b a then b ∷ placed a bs else a ∷ b ∷ bs

-- attributes in ascending order of their octets (X.690, section 11.6)
abbrev pub in_order : List Attribute → List Attribute
in_order [] = []
in_order (a ∷ others) = placed a (in_order others)
