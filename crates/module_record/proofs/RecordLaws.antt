-- How long module records are, and that they aren't key records.
use Rattle.std.proofs.Common.{◌≡◌, ℕ, ◌+◌, ◌*◌, ◌^◌, ◌<◌, ◌≤◌, List, [], ◌∷◌, ◌++◌, length, Option, Some, None, sym, ap}
use Rattle.std.proofs.Common.{◌∙◌, arith}
use Rattle.std.specs.Prelude.{IfSome}
use Rattle.std.specs.List.{AllByRecursion, flat_map}
use Rattle.std.proofs.lemmas.List.{length-append}
use Rattle.der_core.specs.Element.{enc, IsElement, HasRoom}
use Rattle.der_core.specs.Number.{number_contents}
use Rattle.der_core.specs.Objects.{IsOid}
use Rattle.der_core.specs.Reading.{tagged_of, number_of}
use Rattle.der_core.specs.Shapes.{text_if}
use Rattle.der_core.proofs.Numbers.{some_is}
use Rattle.der_core.proofs.Shapes.{tagged_again, number-whole, length-enc-le, length-number-le}
use Rattle.cert_fields.specs.Anchor.{TrustAnchor}
use Rattle.cert_fields.specs.Constraints.{ContentConstraint, constraints_text}
use Rattle.lms_sign.specs.declared.key.SignKey.{SignKey}
use Rattle.module_record.specs.KeyRecord.{key_text, BeginsWithKeyRecord}
use Rattle.module_record.specs.ModuleRecord.{number_text, oid_text, tagged_constraints, anchor_contents, anchor_text}
use Rattle.module_record.specs.ModuleRecord.{module_contents, module_lists, module_text, IsKeptAnchor, HasLimits}
use Rattle.module_record.specs.ModuleRecord.{IsModule, HasShortSubjects, BeginsWithModuleRecord}
use Rattle.module_record.specs.declared.module.Module.{Module}
use Rattle.module_record.proofs.KeyLaws.{key_text_size, contents_fit}

-- ---- sizes

-- texts that are short are short together
short_together : {V : Type 0} (text : V → List ℕ) (most : ℕ) (values : List V)
    → AllByRecursion (λ v. length (text v) ≤ most) values → length (flat_map text values) ≤ most * length values
short_together text most [] each = omega arith
short_together text most (v ∷ vs) each =
    omega (
      arith,
      each.0,
      short_together text most vs each.1,
      length-append (text v) (flat_map text vs),
      more (length vs),
    )
  where
    more : (n : ℕ) → most * (n + 1) ≡ most * n + most
    more n = omega arith

each_is : {V : Type 0} {P Q : V → Type 0} (values : List V) → ((v : V) → P v → Q v) → AllByRecursion P values
    → AllByRecursion Q values
each_is [] is each = tt
each_is (v ∷ vs) is each = (is v each.0, each_is vs is each.1)

number_short : (n : ℕ) → n < 2 ^ 128 → length (number_text n) ≤ 23
number_short n small =
    omega (arith, length-number-le n small, length-enc-le 2 (number_contents n) (omega (arith, length-number-le n small)))

oid_short : (oid : List ℕ) → IsOid oid → length (oid_text oid) ≤ 70
oid_short oid h = omega (arith, h.most, length-enc-le 6 oid (omega (arith, h.most)))

constraints_short : (c : Option (List ContentConstraint))
    → IfSome c (λ entries. length (constraints_text entries) ≤ 2048) → length (text_if tagged_constraints c) ≤ 2054
constraints_short None h = omega arith
constraints_short (Some entries) h =
    omega (arith, h, length-enc-le 0xA0 (constraints_text entries) (omega (arith, h)))

contents_short : (a : TrustAnchor) → IsKeptAnchor a → length a.subject ≤ 1024 → length (anchor_contents a) ≤ 3214
contents_short a kept short =
    omega (
      arith,
      short,
      length-append a.subject (enc 0x04 a.key_id ++ (enc 0x04 a.key ++ text_if tagged_constraints a.constraints)),
      length-append (enc 0x04 a.key_id) (enc 0x04 a.key ++ text_if tagged_constraints a.constraints),
      length-append (enc 0x04 a.key) (text_if tagged_constraints a.constraints),
      length-enc-le 4 a.key_id (omega (arith, kept.anchor.key_id.most)),
      kept.anchor.key_id.most,
      length-enc-le 4 a.key (omega (arith, kept.anchor.key)),
      kept.anchor.key,
      constraints_short a.constraints kept.constraints,
    )

anchor_short : (a : TrustAnchor) → IsKeptAnchor a → length a.subject ≤ 1024 → length (anchor_text a) ≤ 3220
anchor_short a kept short =
    let contents = contents_short a kept short in
    omega (arith, contents, length-enc-le 48 (anchor_contents a) (omega (arith, contents)))

anchors_short : (these : List TrustAnchor) → AllByRecursion IsKeptAnchor these
    → AllByRecursion (λ anchor. length anchor.subject ≤ 1024) these
    → AllByRecursion (λ a. length (anchor_text a) ≤ 3220) these
anchors_short [] kept short = tt
anchors_short (a ∷ these) kept short = (anchor_short a kept.0 short.0, anchors_short these kept.1 short.1)

-- a SEQUENCE of few octets
sequence_short : (contents : List ℕ) (most : ℕ) → length contents ≤ most → most < 2 ^ 32
    → length (enc 0x30 contents) ≤ most + 6
sequence_short contents most le small = omega (arith, le, length-enc-le 48 contents (omega (arith, le, small)))

lists_short : (m : Module) → HasLimits m → HasShortSubjects m → length (module_lists m) ≤ 57600
lists_short m h short =
    let oids = short_together oid_text 70 m.communities (each_is m.communities oid_short h.communities) in
    let kinds = short_together number_text 23 m.kinds (each_is m.kinds number_short h.kinds) in
    let anchors = short_together anchor_text 3220 m.anchors (anchors_short m.anchors h.anchors short) in
    omega (
      arith,
      length-append (enc 0x30 (flat_map oid_text m.communities)) (enc 0x30 (flat_map number_text m.kinds)
          ++ (number_text m.capacity ++ (enc 0x30 (flat_map anchor_text m.anchors) ++ key_text m.key))),
      length-append (enc 0x30 (flat_map number_text m.kinds))
          (number_text m.capacity ++ (enc 0x30 (flat_map anchor_text m.anchors) ++ key_text m.key)),
      length-append (number_text m.capacity) (enc 0x30 (flat_map anchor_text m.anchors) ++ key_text m.key),
      length-append (enc 0x30 (flat_map anchor_text m.anchors)) (key_text m.key),
      sequence_short (flat_map oid_text m.communities) 4480 (omega (arith, oids, h.most_communities)) (omega arith),
      sequence_short (flat_map number_text m.kinds) 1472 (omega (arith, kinds, h.most_kinds)) (omega arith),
      sequence_short (flat_map anchor_text m.anchors) 51520 (omega (arith, anchors, h.most_anchors)) (omega arith),
      number_short m.capacity (omega (arith, h.most_capacity)),
      key_text_size m.key h.key.seed h.key.id,
    )

pub module_short : (m : Module) → HasLimits m → HasShortSubjects m → length (module_contents m) ≤ 58000
module_short m h short =
    omega (
      arith,
      length-append (number_text 1) (oid_text m.hw_type ++ (enc 0x04 m.serial ++ module_lists m)),
      length-append (oid_text m.hw_type) (enc 0x04 m.serial ++ module_lists m),
      length-append (enc 0x04 m.serial) (module_lists m),
      number_short 1 (omega arith),
      oid_short m.hw_type h.hw_type,
      length-enc-le 4 m.serial (omega (arith, h.most_serial)),
      h.most_serial,
      lists_short m h short,
    )

pub short_module : (m : Module) → HasLimits m → HasShortSubjects m → IsModule m
short_module m h short = record { limits = h; fits = omega (arith, module_short m h short) }

pub short_record : (m : Module) → HasLimits m → HasShortSubjects m → length (module_text m) ≤ 65536
short_record m h short =
    let contents = module_short m h short in
    omega (arith, contents, length-enc-le 48 (module_contents m) (omega (arith, contents)))

-- ---- two kinds of records

sequence : (contents : List ℕ) → HasRoom contents → IsElement 0x30 contents
sequence contents room = record { octet = omega arith; low_bits = omega arith; fits = room }

number_element : (n : ℕ) → n < 2 ^ 128 → IsElement 0x02 (number_contents n)
number_element n small =
    record { octet = omega arith; low_bits = omega arith; fits = omega (arith, length-number-le n small) }

pub another_kind : (octets : List ℕ) (m : Module) (key : SignKey) → BeginsWithModuleRecord octets m
    → BeginsWithKeyRecord octets key → ⊥
another_kind octets m key module_is key_is =
    let size = key_text_size key key_is.0.seed key_is.0.id in
    let key_rest = key_text key in
    let rest = oid_text m.hw_type ++ (enc 0x04 m.serial ++ module_lists m) in
    let contents = some_is (module_contents m, module_is.1) (number_text 2 ++ key_rest, key_is.1)
    (sym (tagged_again 48 (module_contents m) module_is.1 (sequence (module_contents m) module_is.0.fits))
    ∙ ap (tagged_of 48) (sym module_is.2 ∙ key_is.2)
    ∙ tagged_again 48 (number_text 2 ++ key_rest) key_is.1 (sequence (number_text 2 ++ key_rest) (contents_fit key size))) in
    let numbers = some_is (number_contents 1, rest) (number_contents 2, key_rest)
    (sym (tagged_again 2 (number_contents 1) rest (number_element 1 (omega arith)))
    ∙ ap (tagged_of 2) (ap (λ (x : List ℕ × List ℕ). x.0) contents)
    ∙ tagged_again 2 (number_contents 2) key_rest (number_element 2 (omega arith))) in
    let same : 1 ≡ 2 =
    some_is 1 2
    (sym (number-whole.again 1 (omega arith))
    ∙ ap number_of (ap (λ (x : List ℕ × List ℕ). x.0) numbers)
    ∙ number-whole.again 2 (omega arith)) in
    omega (arith, same)
