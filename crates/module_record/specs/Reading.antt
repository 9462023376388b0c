-- The reading of keys and key records, by the shapes of their texts. Nothing here has to be believed: the
-- clauses say what is read by the texts, and that what is read here agrees is proved.
use Rattle.std.specs.Prelude.{ℕ, List, Option, Some, None, ◌==◌, if◌then◌else◌, length}
use Rattle.der_core.specs.Reading.{◌>>?◌, number_of}
use Rattle.der_core.specs.Shapes.{Front, Whole, element, alone, before, mapped, tested, anything}
use Rattle.lms_verify.specs.declared.kind.LmsKind.{LmsKind}
use Rattle.lms_verify.specs.declared.kind.LmsKind.TheVariants.{H5, H10}
use Rattle.lms_verify.specs.declared.kind.OtsKind.{OtsKind}
use Rattle.lms_verify.specs.declared.kind.OtsKind.TheVariants.{W1, W2, W4, W8}
use Rattle.lms_sign.specs.declared.key.SignKey.{SignKey}

-- the parts of a key, of any kind and size
pub record KeyParts : Type 0 where
  pub kind : LmsKind
  pub ots : OtsKind
  pub seed : List ℕ
  pub id : List ℕ

-- what a key says
abbrev pub view : SignKey → KeyParts
view key = record { kind = key.kind; ots = key.ots; seed = key.seed; id = key.id }

-- the values that some others stand for
abbrev pub valued : {V W : Type 0} → (V → Option W) → Whole V → Whole W
valued f whole bytes = whole bytes >>? f

-- so many octets
abbrev pub sized : ℕ → Whole (List ℕ)
sized size = tested (λ octets. length octets == size) anything

-- the kind of a signing key's tree, by its typecode
unfoldable pub tree_kind_of : ℕ → Option LmsKind
tree_kind_of n = if n == 5 then Some H5 else if n == 6 then Some H10 else None

-- the kind of one-time keys, by its typecode
unfoldable pub ots_kind_of : ℕ → Option OtsKind
ots_kind_of n =
    if n == 1 then Some W1 else if n == 2 then Some W2 else if n == 3 then Some W4
    else if n == 4 then Some W8 else None

-- the fields of a key
unfoldable pub fields_of : Whole KeyParts
fields_of =
    mapped (λ x. record { kind = x.0; ots = x.1.0; seed = x.1.1.0; id = x.1.1.1 })
    (before (element 0x02 (valued tree_kind_of number_of))
    (before (element 0x02 (valued ots_kind_of number_of))
    (before (element 0x04 (sized 32)) (alone (element 0x04 (sized 16))))))

-- a key at the front
unfoldable pub key_at : Front KeyParts
key_at = element 0x30 fields_of

-- what a key record holds
unfoldable pub record_of : Whole KeyParts
record_of = mapped (λ x. x.1) (before (element 0x02 (tested (λ n. n == 2) number_of)) (alone key_at))

-- a key record at the front
unfoldable pub key_record_at : Front KeyParts
key_record_at = element 0x30 record_of
