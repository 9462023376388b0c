-- The module record, by which a board is a module's; this project's own.
--
--   ModuleRecord ::= SEQUENCE {
--     INTEGER 1,
--     hwType OBJECT IDENTIFIER,
--     serial OCTET STRING (SIZE (1..64)),
--     communities SEQUENCE (SIZE (0..64)) OF OBJECT IDENTIFIER,
--     types SEQUENCE (SIZE (0..64)) OF INTEGER,
--     capacity INTEGER (1..4096),
--     anchors SEQUENCE (SIZE (1..16)) OF Anchor,
--     key Key }
--
--   Anchor ::= SEQUENCE {
--     subject Name,
--     keyId OCTET STRING (SIZE (1..64)),
--     key OCTET STRING (SIZE (60)),
--     constraints [0] EXPLICIT CMSContentConstraints OPTIONAL }
--
-- Key is that of KeyRecord, and CMSContentConstraints that of RFC 6010, section 3. A Name is any SEQUENCE. The types are
-- those of packages that the module takes (RFC 4108, section 2.2.9), below 2 ^ 128. An anchor's key is the 60 octets of
-- an HSS key (RFC 8554, section 6.1).
use Rattle.std.specs.Prelude.{◌≡◌, ℕ, ◌<◌, ◌≤◌, ◌^◌, List, ◌++◌, length, IfSome}
use Rattle.std.specs.List.{AllByRecursion, flat_map}
use Rattle.der_core.specs.Element.{enc, HasRoom}
use Rattle.der_core.specs.Number.{number_contents}
use Rattle.der_core.specs.Objects.{IsOid}
use Rattle.der_core.specs.Shapes.{text_if}
use Rattle.cert_fields.specs.Anchor.{TrustAnchor, IsAnchor}
use Rattle.cert_fields.specs.Constraints.{ContentConstraint, constraints_text}
use Rattle.hss_chain.specs.Keys.{hss_key_text, IsHssKey}
use Rattle.hss_chain.specs.declared.key.HssKey.{HssKey}
use Rattle.lms_sign.specs.PublicKeys.{IsSignKey}
use Rattle.module_record.specs.KeyRecord.{key_text}
use Rattle.module_record.specs.declared.module.Module.{Module}

-- ---- texts

-- an INTEGER that isn't negative
abbrev pub number_text : ℕ → List ℕ
number_text n = enc 0x02 (number_contents n)

abbrev pub oid_text : List ℕ → List ℕ
oid_text contents = enc 0x06 contents

-- the constraints of an anchor, with their tag
abbrev pub tagged_constraints : List ContentConstraint → List ℕ
tagged_constraints entries = enc 0xA0 (constraints_text entries)

-- the contents of Anchor
abbrev pub anchor_contents : TrustAnchor → List ℕ
anchor_contents a =
    a.subject ++ (enc 0x04 a.key_id ++ (enc 0x04 a.key ++ text_if tagged_constraints a.constraints))

abbrev pub anchor_text : TrustAnchor → List ℕ
anchor_text a = enc 0x30 (anchor_contents a)

-- the fields of ModuleRecord from the communities on
abbrev pub module_lists : Module → List ℕ
module_lists m =
    enc 0x30 (flat_map oid_text m.communities)
    ++ (enc 0x30 (flat_map number_text m.kinds)
    ++ (number_text m.capacity
    ++ (enc 0x30 (flat_map anchor_text m.anchors) ++ key_text m.key)))

-- the contents of ModuleRecord
abbrev pub module_contents : Module → List ℕ
module_contents m = number_text 1 ++ (oid_text m.hw_type ++ (enc 0x04 m.serial ++ module_lists m))

-- ModuleRecord
abbrev pub module_text : Module → List ℕ
module_text m = enc 0x30 (module_contents m)

-- ---- values that have a text

-- octets that are an HSS key's (RFC 8554, section 6.1)
abbrev pub IsKeyText : List ℕ → Type 0
IsKeyText octets = (key : HssKey) × IsHssKey key × (octets ≡ hss_key_text key)

-- An anchor that a record keeps.
pub record IsKeptAnchor (a : TrustAnchor) : Type 0 where
  pub anchor : IsAnchor a
  pub key : IsKeyText a.key
  pub constraints : IfSome a.constraints (λ entries. length (constraints_text entries) ≤ 2048)

-- The limits of a module.
pub record HasLimits (m : Module) : Type 0 where
  pub hw_type : IsOid m.hw_type
  pub some_serial : 0 < length m.serial
  pub most_serial : length m.serial ≤ 64
  pub communities : AllByRecursion IsOid m.communities
  pub most_communities : length m.communities ≤ 64
  pub kinds : AllByRecursion (λ kind. kind < 2 ^ 128) m.kinds
  pub most_kinds : length m.kinds ≤ 64
  pub some_capacity : 1 ≤ m.capacity
  pub most_capacity : m.capacity ≤ 4096
  pub anchors : AllByRecursion IsKeptAnchor m.anchors
  pub some_anchors : 1 ≤ length m.anchors
  pub most_anchors : length m.anchors ≤ 16
  pub key : IsSignKey m.key

-- A module that has a record: it is within its limits, and an element has room for it.
pub record IsModule (m : Module) : Type 0 where
  pub limits : HasLimits m
  pub fits : HasRoom (module_contents m)

-- the octets begin with the record of a valid module, whatever follows
abbrev pub BeginsWithModuleRecord : List ℕ → Module → Type 0
BeginsWithModuleRecord octets m = IsModule m × (rest : List ℕ) × (octets ≡ module_text m ++ rest)

-- ---- sizes

-- each anchor's subject has at most 1,024 octets; those of recipes have at most 77
abbrev pub HasShortSubjects : Module → Type 0
HasShortSubjects m = AllByRecursion (λ anchor. length anchor.subject ≤ 1024) m.anchors
