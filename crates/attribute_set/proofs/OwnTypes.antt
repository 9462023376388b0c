-- The types of attributes are those that stand first in their elements.
use Rattle.std.proofs.Common.{◌↔◌, ℕ, List, map}
use Rattle.std.specs.List.{IsDistinct}
use Rattle.std.specs.Prelude.{bytes_eq}
use Rattle.der_core.specs.AttributeReading.{attribute_at}
use Rattle.der_core.specs.Element.{enc}
use Rattle.der_core.proofs.AttributeLaws.{attr-front}
use Rattle.der_core.proofs.Digits.{AreOctets}
use Rattle.attribute_set.specs.Items.{items_of, AreItems}
use Rattle.attribute_set.specs.Types.{HaveOwnTypes}
use Rattle.attribute_set.proofs.Readings.{attribute_at_falls}
use Rattle.attribute_set.proofs.TypeLemmas.{type_first, own_where}

-- no type stands twice among the attributes that octets are
pub own_attributes : (octets : List ℕ) → AreOctets octets → AreItems attribute_at octets
    → HaveOwnTypes octets ↔ IsDistinct bytes_eq (map (λ a. a.kind) (items_of attribute_at octets))
own_attributes octets octet are =
    own_where attribute_at (λ a. a.kind) attr-front attribute_at_falls
    (λ a rest h. type_first a.kind (enc 0x31 a.values) rest h.kind.most h.fits) octets (items_of attribute_at octets)
    octet are
