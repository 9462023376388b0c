-- An attribute (RFC 5652, section 5.3).
--
--   Attribute ::= SEQUENCE {
--     attrType OBJECT IDENTIFIER,
--     attrValues SET OF AttributeValue }
--
--   AttributeValue ::= ANY
use Rattle.std.specs.Prelude.{◌≡◌, ℕ, ◌<◌, ◌^◌, List, ◌++◌, length}
use Rattle.std.specs.List.{AllByRecursion, concat}
use Rattle.der_core.specs.Element.{enc, IsElement}
use Rattle.der_core.specs.Objects.{IsOid}
use Rattle.der_core.specs.Shapes.{IsOneElement}

-- octets that are elements, one after the other; there may be none
abbrev pub AreElements : List ℕ → Type 0
AreElements octets = (elements : List (List ℕ)) × AllByRecursion IsOneElement elements × (octets ≡ concat elements)

-- the octets of the type, and the contents of the SET of values
pub record Attribute : Type 0 where
  pub kind : List ℕ
  pub values : List ℕ

-- the contents of the SEQUENCE
abbrev pub attribute_contents : Attribute → List ℕ
attribute_contents a = enc 0x06 a.kind ++ enc 0x31 a.values

-- the whole of it
abbrev pub attribute_text : Attribute → List ℕ
attribute_text a = enc 0x30 (attribute_contents a)

-- an identifier and elements, which an element has room for
pub record IsAttribute (a : Attribute) : Type 0 where
  pub kind : IsOid a.kind
  pub values : AreElements a.values
  pub fits : length (attribute_contents a) < 2 ^ 32

-- the text of a value, an element of any tag with any contents
abbrev pub value_text : ℕ × List ℕ → List ℕ
value_text value = enc value.0 value.1

-- a tag and contents that have such a text
abbrev pub IsValue : ℕ × List ℕ → Type 0
IsValue value = IsElement value.0 value.1
