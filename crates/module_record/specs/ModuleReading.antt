-- The reading of module records, by the shapes of their texts. Nothing here has to be believed: the clauses say what
-- is read by the texts, and that what is read here agrees is proved.
use Rattle.std.specs.Prelude.{◌≡◌, ℕ, ◌≤◌, ◌==◌, ◌&&◌, nat_le, List, [], ◌∷◌, length, Option, Some, None}
use Rattle.der_core.specs.Reading.{number_of, oid_of, octets_of}
use Rattle.der_core.specs.Shapes.{Front, Whole, element, alone, before, optional, mapped, tested, listed, anything}
use Rattle.der_core.specs.Shapes.{whole_element}
use Rattle.cert_fields.specs.Anchor.{TrustAnchor, HasParts}
use Rattle.module_record.specs.ModuleRecord.{IsKeyText}
use Rattle.module_record.specs.Reading.{KeyParts, view, sized, key_at}
use Rattle.module_record.specs.declared.module.Module.{Module}

-- ---- anchors

-- The parts of an anchor.
pub record AnchorParts : Type 0 where
  pub subject : List ℕ
  pub key_id : List ℕ
  pub key : List ℕ
  -- what stands in [0], where that is there
  pub constraints : Option (List ℕ)

-- at most so many octets
abbrev pub short : ℕ → Whole (List ℕ)
short most = tested (λ octets. nat_le (length octets) most) anything

-- what stands in [0], and nothing after it
unfoldable pub constraints_in : Whole (List ℕ)
constraints_in = alone (element 0xA0 (short 2048))

-- the fields of an anchor
unfoldable pub anchor_of : Whole AnchorParts
anchor_of =
    mapped (λ x. record { subject = x.0; key_id = x.1.0; key = x.1.1.0; constraints = x.1.1.1 })
    (before (whole_element 0x30)
    (before (element 0x04 octets_of) (before (element 0x04 (sized 60)) (optional constraints_in))))

-- an anchor at the front
unfoldable pub anchor_at : Front AnchorParts
anchor_at = element 0x30 anchor_of

-- the anchor has these parts, and its key is an HSS key
abbrev pub IsMadeOf : TrustAnchor → AnchorParts → Type 0
IsMadeOf a p = HasParts a p.subject p.key_id p.key p.constraints × IsKeyText p.key

-- each anchor has the parts in its place
abbrev pub AreMade : List TrustAnchor → List AnchorParts → Type 0
AreMade [] [] = Unit {0}
AreMade [] (p ∷ ps) = ⊥
AreMade (a ∷ these) [] = ⊥
AreMade (a ∷ these) (p ∷ ps) = IsMadeOf a p × AreMade these ps

-- the same of parts that are read
abbrev pub AreMadeOf : List TrustAnchor → Option (List AnchorParts) → Type 0
AreMadeOf these None = ⊥
AreMadeOf these (Some ps) = AreMade these ps

-- ---- modules

unfoldable pub oid_at : Front (List ℕ)
oid_at = element 0x06 oid_of

unfoldable pub number_at : Front ℕ
number_at = element 0x02 number_of

unfoldable pub serial_at : Front (List ℕ)
serial_at = element 0x04 octets_of

-- at most 64 values, one after the other
abbrev pub few : {V : Type 0} → Front V → Whole (List V)
few front = tested (λ values. nat_le (length values) 64) (listed front)

-- the contents of a SEQUENCE
unfoldable pub sequence_at : Front (List ℕ)
sequence_at = element 0x30 anything

-- the number of a module record
unfoldable pub one_at : Front ℕ
one_at = element 0x02 (tested (λ n. n == 1) number_of)

unfoldable pub capacity_at : Front ℕ
capacity_at = element 0x02 (tested (λ n. nat_le 1 n && nat_le n 4096) number_of)

-- What the lists of a module record are, as octets.
pub record ListParts : Type 0 where
  pub communities : List ℕ
  pub kinds : List ℕ
  pub capacity : ℕ
  pub anchors : List ℕ
  pub key : KeyParts

unfoldable pub lists_of : Whole ListParts
lists_of =
    mapped (λ x. record {
      communities = x.0;
      kinds = x.1.0;
      capacity = x.1.1.0;
      anchors = x.1.1.1.0;
      key = x.1.1.1.1;
    })
    (before sequence_at (before sequence_at (before capacity_at (before sequence_at (alone key_at)))))

-- What a module record holds; its lists are octets.
pub record ModuleParts : Type 0 where
  pub hw_type : List ℕ
  pub serial : List ℕ
  pub lists : ListParts

unfoldable pub module_of : Whole ModuleParts
module_of =
    mapped (λ x. record { hw_type = x.1.0; serial = x.1.1.0; lists = x.1.1.1 })
    (before one_at (before oid_at (before serial_at lists_of)))

-- a module record at the front
unfoldable pub module_at : Front ModuleParts
module_at = element 0x30 module_of

-- The module has these parts.
pub record HasModuleParts (m : Module) (p : ModuleParts) : Type 0 where
  pub hw_type : p.hw_type ≡ m.hw_type
  pub serial : p.serial ≡ m.serial
  pub communities : few oid_at p.lists.communities ≡ Some m.communities
  pub kinds : few number_at p.lists.kinds ≡ Some m.kinds
  pub capacity : p.lists.capacity ≡ m.capacity
  pub anchors : AreMadeOf m.anchors (listed anchor_at p.lists.anchors)
  pub some_anchors : 1 ≤ length m.anchors
  pub most_anchors : length m.anchors ≤ 16
  pub key : p.lists.key ≡ view m.key
