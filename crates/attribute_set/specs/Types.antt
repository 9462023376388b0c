-- Types that stand first in elements, one after the other. What follows a type in its element is not looked at, so the
-- time is that of the type.
use Rattle.std.specs.Prelude.{◌≡◌, ℕ, List, [], Some, drop, bytes_eq}
use Rattle.std.specs.List.{IsDistinct}
use Rattle.std.specs.Option.{unwrap_or}
use Rattle.der_core.specs.Reading.{◌>>?◌, tagged_of}
use Rattle.der_core.specs.Shapes.{Front, Whole, element, listed}

-- the contents of the OBJECT IDENTIFIER that stands first
unfoldable pub first_type : Whole (List ℕ)
first_type octets = tagged_of 0x06 octets >>? λ x. Some x.0

-- the type that stands first in the SEQUENCE at the front
unfoldable pub type_at : Front (List ℕ)
type_at = element 0x30 first_type

-- The octets are SEQUENCEs, one after the other, in each of which an OBJECT IDENTIFIER stands first, and no two of these
-- are equal.
abbrev pub HaveOwnTypes : List ℕ → Type 0
HaveOwnTypes octets = (types : List (List ℕ)) × (listed type_at octets ≡ Some types) × IsDistinct bytes_eq types

-- the type that stands first in the SEQUENCE at the front
unfoldable pub first_kind : Whole (List ℕ)
first_kind octets = type_at octets >>? λ x. Some x.0

-- the same from a place on
abbrev pub kind_at : List ℕ → ℕ → List ℕ
kind_at octets place = unwrap_or (first_kind (drop place octets)) []
