-- Attributes as DER writes a SET OF them (RFC 5652, sections 5.3 and 5.4; X.690, section 11.6).
--
--   SignedAttributes ::= SET SIZE (1..MAX) OF Attribute
use Rattle.std.specs.Prelude.{◌≡◌, ℕ, List, map, IsSorted, bytes_eq}
use Rattle.std.specs.List.{AllByRecursion, IsDistinct, flat_map}
use Rattle.std.specs.Ordering.{nat_cmp}
use Rattle.std.specs.Cmp.Lexicographic.{slice_cmp}
use Rattle.der_core.specs.Attribute.{Attribute, attribute_text, IsAttribute}

-- the contents of the SET: the attributes one after the other
abbrev pub set_contents : List Attribute → List ℕ
set_contents attributes = flat_map attribute_text attributes

-- The octets are attributes one after the other, in any order, and a type may stand twice: what unsigned attributes
-- are asked to be.
abbrev pub AreAttributes : List ℕ → Type 0
AreAttributes octets =
    (attributes : List Attribute) × AllByRecursion IsAttribute attributes × (octets ≡ set_contents attributes)

-- Attributes in the order in which DER writes them: none stands before one that is less by the first octet in which
-- they differ (X.690, section 11.6). That no type stands twice is this project's own, for all signed attributes: RFC
-- 5652 asks it of contentType, messageDigest and signingTime alone (sections 11.1 to 11.3).
pub record IsAttributeSet (attributes : List Attribute) : Type 0 where
  pub each : AllByRecursion IsAttribute attributes
  pub ascending : IsSorted (slice_cmp nat_cmp) (map attribute_text attributes)
  pub distinct : IsDistinct bytes_eq (map (λ attribute. attribute.kind) attributes)
