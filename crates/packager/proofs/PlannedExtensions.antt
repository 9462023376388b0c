-- The extensions of a planned certificate read as the plan's values.
use Rattle.std.proofs.Common.{◌≡◌, ℕ, ◌+◌, ◌<◌, ◌≤◌, ◌^◌, Bool, true, false, cond, List, [], ◌∷◌, ◌++◌, map, length, Option, Some, None, IfSome, option_map, refl, sym, ap, ◌∙◌, arith, lit<}
use Rattle.std.specs.Prelude.{bytes_eq}
use Rattle.std.specs.List.{AllByRecursion, IsDistinct, flat_map, find}
use Rattle.std.specs.Option.{option_and_then}
use Rattle.std.proofs.lemmas.List.{length-append}
use Rattle.der_core.specs.BitString.{bits_contents}
use Rattle.der_core.specs.Boolean.{boolean_contents}
use Rattle.der_core.specs.Element.{enc, length_octets}
use Rattle.der_core.specs.Objects.{IsOid}
use Rattle.der_core.specs.Reading.{subidentifiers_after, subidentifier_step}
use Rattle.der_core.specs.Shapes.{text_if, text_unless}
use Rattle.der_core.proofs.Lengths.{length-enc-le}
use Rattle.der_core.proofs.Objects.{is_oid}
use Rattle.cert_fields.specs.Certificate.{bits_text}
use Rattle.cert_fields.specs.Constraints.{ContentConstraint, AreConstraints, constraints_text}
use Rattle.cert_fields.specs.Extensions.{Extension, IsExtension, AreExtensions, extension_text, extension_contents, is_false, boolean_text}
use Rattle.cert_fields.specs.Extensions.{StandsFor, IsUnderstood, SaysIn, value_of, key_identifier_text, IsKeyIdentifier}
use Rattle.cert_fields.specs.Extensions.{AuthorityKey, IsAuthorityKey, IsUsage, ca_rule_text, path_length_text, usage_number}
use Rattle.cert_fields.specs.Extensions.{authority_key_text}
use Rattle.cert_fields.specs.ExtensionTypes.{subject_key_identifier, authority_key_identifier, basic_constraints}
use Rattle.cert_fields.specs.ExtensionTypes.{key_usage, content_constraints, subject_alt_name, is_known}
use Rattle.cert_fields.specs.declared.extensions.Extensions.{Extensions}
use Rattle.package_attrs.specs.Identifier.{HasOneTo64}
use Rattle.packager.specs.declared.certificate_plan.Authority.{Authority}
use Rattle.packager.specs.declared.certificate_plan.KeyUses.{KeyUses}
use Rattle.packager.specs.declared.certificate_plan.KeyUses.TheVariants.{Sign, CertSign, Both}
use Rattle.packager.specs.CertificatePlan.{CertificatePlan, one_if, authority_text, basic_text, usage_bits, uses_text}
use Rattle.packager.specs.CertificatePlan.{hardware_text, hardware_module_name, planned_extensions, written_extensions}
use Rattle.packager.specs.ReadPlans.{AreConstraintsText, IsCertificatePlan, planned_rule, planned_usage, SaysPlanned}
use Rattle.packager.proofs.Descriptions.{are_octets}
use Rattle.packager.proofs.TextSizes.{number_size, oid_size}

-- the text of `critical` or of cA
true_size : length (boolean_text true) ≡ 3
unfolding enc length_octets boolean_contents
true_size = refl

critical_size : (critical : Bool) → length (text_unless is_false boolean_text critical) ≤ 3
critical_size true = omega (arith, true_size)
critical_size false = omega arith

-- ---- an extension that is there or isn't

module _ {V : Type 0} (kind : List ℕ) (critical : Bool) (text : V → List ℕ) where
  abbrev one : V → Extension
  one v = record { kind = kind; critical = critical; value = text v }

  -- one of another type isn't found
  found_on : (other : List ℕ) (o : Option V) (rest : List Extension) → bytes_eq kind other ≡ false
      → find (λ e. bytes_eq e.kind other) (one_if kind critical text o ++ rest)
      ≡ find (λ e. bytes_eq e.kind other) rest
  found_on other None rest isnt = refl
  found_on other (Some v) rest isnt =
      ap (λ (found : Bool). cond found (Some (one v)) (find (λ e. bytes_eq e.kind other) rest)) isnt

  found_last : (other : List ℕ) (o : Option V) → bytes_eq kind other ≡ false
      → find (λ e. bytes_eq e.kind other) (one_if kind critical text o) ≡ None
  found_last other None isnt = refl
  found_last other (Some v) isnt =
      ap (λ (found : Bool). cond found (Some (one v)) None) isnt

  -- one of this type is found, where no later one is of it
  found_here : (o : Option V) (rest : List Extension) → bytes_eq kind kind ≡ true
      → find (λ e. bytes_eq e.kind kind) rest ≡ None
      → option_map (λ e. e.value) (find (λ e. bytes_eq e.kind kind) (one_if kind critical text o ++ rest))
      ≡ option_map text o
  found_here None rest same none = ap (option_map (λ (e : Extension). e.value)) none
  found_here (Some v) rest same none =
      ap (λ (found : Bool). option_map (λ (e : Extension). e.value) (cond found (Some (one v)) (find (λ e. bytes_eq e.kind kind) rest))) same

  -- types are distinct
  abbrev Apart : List ℕ → List Extension → Type 0
  Apart this es = AllByRecursion (λ other. bytes_eq this other ≡ false) (map (λ e. e.kind) es)

  apart_on : (this : List ℕ) (o : Option V) (rest : List Extension) → bytes_eq this kind ≡ false
      → Apart this rest → Apart this (one_if kind critical text o ++ rest)
  apart_on this None rest isnt more = more
  apart_on this (Some v) rest isnt more = (isnt, more)

  apart_last : (this : List ℕ) (o : Option V) → bytes_eq this kind ≡ false → Apart this (one_if kind critical text o)
  apart_last this None isnt = tt
  apart_last this (Some v) isnt = (isnt, tt)

  distinct_on : (o : Option V) (rest : List Extension) → Apart kind rest
      → IsDistinct bytes_eq (map (λ e. e.kind) rest)
      → IsDistinct bytes_eq (map (λ e. e.kind) (one_if kind critical text o ++ rest))
  unfolding IsDistinct
  distinct_on None rest apart more = more
  distinct_on (Some v) rest apart more = (apart, more)

  distinct_last : (o : Option V) → IsDistinct bytes_eq (map (λ e. e.kind) (one_if kind critical text o))
  unfolding IsDistinct
  distinct_last None = tt
  distinct_last (Some v) = (tt, tt)

  -- types are known
  understood_on : (o : Option V) (rest : List Extension) → is_known kind ≡ true → AllByRecursion IsUnderstood rest
      → AllByRecursion IsUnderstood (one_if kind critical text o ++ rest)
  understood_on None rest known more = more
  understood_on (Some v) rest known more = (λ _. known, more)

  understood_last : (o : Option V) → is_known kind ≡ true → AllByRecursion IsUnderstood (one_if kind critical text o)
  understood_last None known = tt
  understood_last (Some v) known = (λ _. known, tt)

  -- elements have room for it
  contents_size : (v : V) (most : ℕ) → IsOid kind → length (text v) ≤ most → most ≤ 2 ^ 31
      → length (extension_contents (one v)) ≤ most + 80
  contents_size v most id few small =
      let critical_text = text_unless is_false boolean_text critical in
      omega (
        arith,
        few,
        small,
        critical_size critical,
        oid_size kind id,
        length-append (enc 0x06 kind) (critical_text ++ enc 0x04 (text v)),
        length-append critical_text (enc 0x04 (text v)),
        length-enc-le 0x04 (text v) (omega (arith, few, small)),
      )

  extension_is : (o : Option V) (most : ℕ) → IsOid kind → IfSome o (λ v. length (text v) ≤ most) → most ≤ 2 ^ 31
      → AllByRecursion IsExtension (one_if kind critical text o)
  extension_is None most id few small = tt
  extension_is (Some v) most id few small =
      (record { kind = id; fits = omega (arith, small, contents_size v most id few small) }, tt)

  extension_size : (o : Option V) (most : ℕ) → IsOid kind → IfSome o (λ v. length (text v) ≤ most) → most ≤ 2 ^ 31
      → length (flat_map extension_text (one_if kind critical text o)) ≤ most + 86
  extension_size None most id few small = omega arith
  extension_size (Some v) most id few small =
      let size = contents_size v most id few small in
      omega (
        arith,
        size,
        small,
        length-append (extension_text (one v)) [],
        length-enc-le 0x30 (extension_contents (one v)) (omega (arith, size, small)),
      )

-- ---- types and values

subject_key_is : IsOid subject_key_identifier
unfolding subidentifiers_after subidentifier_step
subject_key_is =
    is_oid subject_key_identifier (are_octets subject_key_identifier (lit< tt, (lit< tt, (lit< tt, tt)))) (omega arith) (omega arith) refl

authority_key_is : IsOid authority_key_identifier
unfolding subidentifiers_after subidentifier_step
authority_key_is =
    is_oid authority_key_identifier (are_octets authority_key_identifier (lit< tt, (lit< tt, (lit< tt, tt)))) (omega arith) (omega arith) refl

basic_is : IsOid basic_constraints
unfolding subidentifiers_after subidentifier_step
basic_is = is_oid basic_constraints (are_octets basic_constraints (lit< tt, (lit< tt, (lit< tt, tt)))) (omega arith) (omega arith) refl

usage_is : IsOid key_usage
unfolding subidentifiers_after subidentifier_step
usage_is = is_oid key_usage (are_octets key_usage (lit< tt, (lit< tt, (lit< tt, tt)))) (omega arith) (omega arith) refl

alt_name_is : IsOid subject_alt_name
unfolding subidentifiers_after subidentifier_step
alt_name_is = is_oid subject_alt_name (are_octets subject_alt_name (lit< tt, (lit< tt, (lit< tt, tt)))) (omega arith) (omega arith) refl

constraints_is : IsOid content_constraints
unfolding subidentifiers_after subidentifier_step
constraints_is =
    is_oid content_constraints
    (are_octets content_constraints (lit< tt, (lit< tt, (lit< tt, (lit< tt, (lit< tt, (lit< tt, (lit< tt, (lit< tt, tt)))))))))
    (omega arith) (omega arith) refl

id_size : (o : Option (List ℕ)) → IfSome o IsKeyIdentifier → IfSome o (λ v. length (key_identifier_text v) ≤ 400)
id_size None valid = tt
id_size (Some id) valid = omega (arith, valid.most, length-enc-le 0x04 id (omega (arith, valid.most)))

authority_size : (o : Option (List ℕ)) → IfSome o IsKeyIdentifier → IfSome o (λ v. length (authority_text v) ≤ 400)
authority_size None valid = tt
authority_size (Some id) valid =
    let inner = length-enc-le 0x80 id (omega (arith, valid.most)) in
    let all = length-append (enc 0x80 id) [] in
    omega (arith, valid.most, inner, all, length-enc-le 0x30 (enc 0x80 id ++ []) (omega (arith, valid.most, inner, all)))

basic_size : (o : Option Authority) → IfSome o (λ a. IfSome a.path_len (λ n. n < 2 ^ 128))
    → IfSome o (λ a. length (basic_text a) ≤ 400)
basic_size None valid = tt
basic_size (Some a) valid =
    let path = path_size a.path_len valid in
    let all = length-append (boolean_text true) (text_if path_length_text a.path_len) in
    omega (
      arith,
      path,
      all,
      true_size,
      length-enc-le 0x30 (boolean_text true ++ text_if path_length_text a.path_len) (omega (arith, path, all, true_size)),
    )
  where
    path_size : (n : Option ℕ) → IfSome n (λ n. n < 2 ^ 128) → length (text_if path_length_text n) ≤ 23
    path_size None small = omega arith
    path_size (Some n) small = number_size n small

uses_size : (o : Option KeyUses) → IfSome o (λ u. length (uses_text u) ≤ 400)
unfolding enc length_octets bits_contents
uses_size None = tt
uses_size (Some Sign) = omega arith
uses_size (Some CertSign) = omega arith
uses_size (Some Both) = omega arith

hardware_size : (o : Option (List ℕ × List ℕ)) → IfSome o (λ h. IsOid h.0 × HasOneTo64 h.1)
    → IfSome o (λ h. length (hardware_text h) ≤ 400)
hardware_size None valid = tt
hardware_size (Some (hw_type, serial)) valid =
    let number = length-enc-le 0x04 serial (omega (arith, valid.1.1)) in
    let id = oid_size hw_type valid.0 in
    let both = length-append (enc 0x06 hw_type) (enc 0x04 serial) in
    let a : length (enc 0x06 hw_type ++ enc 0x04 serial) ≤ 140 = omega (arith, valid.1.1, number, id, both) in
    let b = length-enc-le 0x30 (enc 0x06 hw_type ++ enc 0x04 serial) (omega (arith, a)) in
    let value = enc 0x30 (enc 0x06 hw_type ++ enc 0x04 serial) in
    let c = length-enc-le 0xA0 value (omega (arith, a, b)) in
    let d = length-enc-le 0x06 hardware_module_name (omega arith) in
    let e = length-append (enc 0x06 hardware_module_name) (enc 0xA0 value) in
    let other = enc 0x06 hardware_module_name ++ enc 0xA0 value in
    let f : length other ≤ 166 = omega (arith, a, b, c, d, e) in
    let g = length-enc-le 0xA0 other (omega (arith, f)) in
    omega (arith, f, g, length-enc-le 0x30 (enc 0xA0 other) (omega (arith, f, g)))

usage_valid : (u : KeyUses) → IsUsage (usage_bits u)
unfolding bits_contents
usage_valid Sign = record {
  bits = record { unused = omega arith; none = λ none. absurd (omega (arith, none)); zeros = refl };
  fits = lit< tt;
}
usage_valid CertSign = record {
  bits = record { unused = omega arith; none = λ none. absurd (omega (arith, none)); zeros = refl };
  fits = lit< tt;
}
usage_valid Both = record {
  bits = record { unused = omega arith; none = λ none. absurd (omega (arith, none)); zeros = refl };
  fits = lit< tt;
}

constraints_in : (o : Option (List ℕ)) → IfSome o AreConstraintsText → Option (List ContentConstraint)
constraints_in None are = None
constraints_in (Some text) are = Some are.0

are_in : (o : Option (List ℕ)) (are : IfSome o AreConstraintsText) → IfSome (constraints_in o are) AreConstraints
unfolding constraints_in
are_in None are = tt
are_in (Some text) are = are.1

text_in : (o : Option (List ℕ)) (are : IfSome o AreConstraintsText) → option_map constraints_text (constraints_in o are) ≡ o
unfolding constraints_in
text_in None are = refl
text_in (Some text) are = ap (λ (t : List ℕ). Some t) (sym are.2)

named_key : Option (List ℕ) → Option AuthorityKey
named_key None = None
named_key (Some id) = Some (record { key = Some id; issuer = None; serial = None })

named_valid : (o : Option (List ℕ)) → IfSome o IsKeyIdentifier → IfSome (named_key o) IsAuthorityKey
unfolding named_key
named_valid None valid = tt
named_valid (Some id) valid =
    let inner = length-enc-le 0x80 id (omega (arith, valid.most)) in
    record { key = valid; fits = omega (arith, valid.most, inner, length-append (enc 0x80 id) []) }

named_text : (o : Option (List ℕ)) → option_map authority_text o ≡ option_map authority_key_text (named_key o)
unfolding named_key
named_text None = refl
named_text (Some id) = refl

named_gives : (o : Option (List ℕ)) → o ≡ option_and_then (λ a. a.key) (named_key o)
unfolding named_key
named_gives None = refl
named_gives (Some id) = refl

-- ---- all of them

module _ (p : CertificatePlan) (plan : IsCertificatePlan p) where
  abbrev hardware : List Extension
  hardware = one_if subject_alt_name false hardware_text p.hardware

  abbrev constraints : List Extension
  constraints = one_if content_constraints false (λ text. text) p.constraints ++ hardware

  abbrev uses : List Extension
  uses = one_if key_usage true uses_text p.uses ++ constraints

  abbrev basic : List Extension
  basic = one_if basic_constraints true basic_text p.authority ++ uses

  abbrev authority : List Extension
  authority = one_if authority_key_identifier false authority_text p.authority_key ++ basic

  abbrev all : List Extension
  all = one_if subject_key_identifier false key_identifier_text p.subject_key ++ authority

  -- the last ones are of no other type
  none_in_hardware : (kind : List ℕ) → bytes_eq subject_alt_name kind ≡ false
      → find (λ e. bytes_eq e.kind kind) hardware ≡ None
  none_in_hardware kind h = found_last subject_alt_name false hardware_text kind p.hardware h

  none_in_constraints : (kind : List ℕ) → bytes_eq content_constraints kind ≡ false
      → bytes_eq subject_alt_name kind ≡ false → find (λ e. bytes_eq e.kind kind) constraints ≡ None
  none_in_constraints kind c h =
      found_on content_constraints false (λ (text : List ℕ). text) kind p.constraints hardware c ∙ none_in_hardware kind h

  none_in_uses : (kind : List ℕ) → bytes_eq key_usage kind ≡ false → bytes_eq content_constraints kind ≡ false
      → bytes_eq subject_alt_name kind ≡ false → find (λ e. bytes_eq e.kind kind) uses ≡ None
  none_in_uses kind u c h =
      found_on key_usage true uses_text kind p.uses constraints u ∙ none_in_constraints kind c h

  none_in_basic : (kind : List ℕ) → bytes_eq basic_constraints kind ≡ false → bytes_eq key_usage kind ≡ false
      → bytes_eq content_constraints kind ≡ false → bytes_eq subject_alt_name kind ≡ false
      → find (λ e. bytes_eq e.kind kind) basic ≡ None
  none_in_basic kind b u c h =
      found_on basic_constraints true basic_text kind p.authority uses b ∙ none_in_uses kind u c h

  none_in_authority : (kind : List ℕ) → bytes_eq authority_key_identifier kind ≡ false
      → bytes_eq basic_constraints kind ≡ false → bytes_eq key_usage kind ≡ false
      → bytes_eq content_constraints kind ≡ false → bytes_eq subject_alt_name kind ≡ false
      → find (λ e. bytes_eq e.kind kind) authority ≡ None
  none_in_authority kind a b u c h =
      found_on authority_key_identifier false authority_text kind p.authority_key basic a ∙ none_in_basic kind b u c h

  -- the value of each type
  value_at : (kind : List ℕ) (found : Option Extension) (value : Option (List ℕ))
      → find (λ e. bytes_eq e.kind kind) all ≡ found → option_map (λ (e : Extension). e.value) found ≡ value
      → value_of kind all ≡ value
  value_at kind found value is gives = ap (option_map (λ (e : Extension). e.value)) is ∙ gives

  to_authority : (kind : List ℕ) → bytes_eq subject_key_identifier kind ≡ false
      → find (λ e. bytes_eq e.kind kind) all ≡ find (λ e. bytes_eq e.kind kind) authority
  to_authority kind s =
      found_on subject_key_identifier false key_identifier_text kind p.subject_key authority s

  to_basic : (kind : List ℕ) → bytes_eq subject_key_identifier kind ≡ false
      → bytes_eq authority_key_identifier kind ≡ false
      → find (λ e. bytes_eq e.kind kind) all ≡ find (λ e. bytes_eq e.kind kind) basic
  to_basic kind s a =
      to_authority kind s ∙ found_on authority_key_identifier false authority_text kind p.authority_key basic a

  to_uses : (kind : List ℕ) → bytes_eq subject_key_identifier kind ≡ false
      → bytes_eq authority_key_identifier kind ≡ false → bytes_eq basic_constraints kind ≡ false
      → find (λ e. bytes_eq e.kind kind) all ≡ find (λ e. bytes_eq e.kind kind) uses
  to_uses kind s a b = to_basic kind s a ∙ found_on basic_constraints true basic_text kind p.authority uses b

  to_constraints : (kind : List ℕ) → bytes_eq subject_key_identifier kind ≡ false
      → bytes_eq authority_key_identifier kind ≡ false → bytes_eq basic_constraints kind ≡ false
      → bytes_eq key_usage kind ≡ false
      → find (λ e. bytes_eq e.kind kind) all ≡ find (λ e. bytes_eq e.kind kind) constraints
  to_constraints kind s a b u = to_uses kind s a b ∙ found_on key_usage true uses_text kind p.uses constraints u

  subject_value : value_of subject_key_identifier all ≡ option_map key_identifier_text p.subject_key
  subject_value =
      found_here subject_key_identifier false key_identifier_text p.subject_key authority refl
      (none_in_authority subject_key_identifier refl refl refl refl refl)

  authority_value : value_of authority_key_identifier all ≡ option_map authority_text p.authority_key
  authority_value =
      value_at authority_key_identifier _ _ (to_authority authority_key_identifier refl)
      (found_here authority_key_identifier false authority_text p.authority_key basic refl
      (none_in_basic authority_key_identifier refl refl refl refl))

  basic_value : value_of basic_constraints all ≡ option_map basic_text p.authority
  basic_value =
      value_at basic_constraints _ _ (to_basic basic_constraints refl refl)
      (found_here basic_constraints true basic_text p.authority uses refl
      (none_in_uses basic_constraints refl refl refl))

  uses_value : value_of key_usage all ≡ option_map uses_text p.uses
  uses_value =
      value_at key_usage _ _ (to_uses key_usage refl refl refl)
      (found_here key_usage true uses_text p.uses constraints refl (none_in_constraints key_usage refl refl))

  constraints_value : value_of content_constraints all ≡ option_map (λ text. text) p.constraints
  constraints_value =
      value_at content_constraints _ _ (to_constraints content_constraints refl refl refl refl)
      (found_here content_constraints false (λ (text : List ℕ). text) p.constraints hardware refl
      (none_in_hardware content_constraints refl))

  -- no type stands twice
  distinct : IsDistinct bytes_eq (map (λ e. e.kind) all)
  distinct =
      let h = distinct_last subject_alt_name false hardware_text p.hardware in
      let c = distinct_on content_constraints false (λ (text : List ℕ). text) p.constraints hardware
      (apart_last subject_alt_name false hardware_text content_constraints p.hardware refl) h in
      let u = distinct_on key_usage true uses_text p.uses constraints (apart_constraints key_usage refl refl) c in
      let b = distinct_on basic_constraints true basic_text p.authority uses (apart_uses basic_constraints refl refl refl) u in
      let a = distinct_on authority_key_identifier false authority_text p.authority_key basic
      (apart_basic authority_key_identifier refl refl refl refl) b in
      distinct_on subject_key_identifier false key_identifier_text p.subject_key authority
      (apart_on authority_key_identifier false authority_text subject_key_identifier p.authority_key basic refl
      (apart_basic subject_key_identifier refl refl refl refl)) a
    where
      apart_constraints : (this : List ℕ) → bytes_eq this content_constraints ≡ false
          → bytes_eq this subject_alt_name ≡ false → AllByRecursion (λ other. bytes_eq this other ≡ false) (map (λ e. e.kind) constraints)
      apart_constraints this c h =
          apart_on content_constraints false (λ (text : List ℕ). text) this p.constraints hardware c
          (apart_last subject_alt_name false hardware_text this p.hardware h)

      apart_uses : (this : List ℕ) → bytes_eq this key_usage ≡ false → bytes_eq this content_constraints ≡ false
          → bytes_eq this subject_alt_name ≡ false → AllByRecursion (λ other. bytes_eq this other ≡ false) (map (λ e. e.kind) uses)
      apart_uses this u c h =
          apart_on key_usage true uses_text this p.uses constraints u (apart_constraints this c h)

      apart_basic : (this : List ℕ) → bytes_eq this basic_constraints ≡ false → bytes_eq this key_usage ≡ false
          → bytes_eq this content_constraints ≡ false → bytes_eq this subject_alt_name ≡ false
          → AllByRecursion (λ other. bytes_eq this other ≡ false) (map (λ e. e.kind) basic)
      apart_basic this b u c h =
          apart_on basic_constraints true basic_text this p.authority uses b (apart_uses this u c h)

  understood : AllByRecursion IsUnderstood all
  understood =
      understood_on subject_key_identifier false key_identifier_text p.subject_key authority refl
      (understood_on authority_key_identifier false authority_text p.authority_key basic refl
      (understood_on basic_constraints true basic_text p.authority uses refl
      (understood_on key_usage true uses_text p.uses constraints refl
      (understood_on content_constraints false (λ (text : List ℕ). text) p.constraints hardware refl
      (understood_last subject_alt_name false hardware_text p.hardware refl)))))

  -- elements have room
  constraints_size : IfSome p.constraints (λ text. length text ≤ 2 ^ 31)
  constraints_size = plan.short.constraints

  each_is : AllByRecursion IsExtension all
  each_is =
      joined _ _ (extension_is subject_key_identifier false key_identifier_text p.subject_key 400 subject_key_is (id_size p.subject_key plan.subject_key) (omega arith))
      (joined _ _ (extension_is authority_key_identifier false authority_text p.authority_key 400 authority_key_is (authority_size p.authority_key plan.authority_key) (omega arith))
      (joined _ _ (extension_is basic_constraints true basic_text p.authority 400 basic_is (basic_size p.authority plan.authority) (omega arith))
      (joined _ _ (extension_is key_usage true uses_text p.uses 400 usage_is (uses_size p.uses) (omega arith))
      (joined _ _ (extension_is content_constraints false (λ (text : List ℕ). text) p.constraints (2 ^ 31) constraints_is constraints_size (omega arith))
      (extension_is subject_alt_name false hardware_text p.hardware 400 alt_name_is (hardware_size p.hardware plan.hardware) (omega arith))))))
    where
      joined : (xs ys : List Extension) → AllByRecursion IsExtension xs → AllByRecursion IsExtension ys
          → AllByRecursion IsExtension (xs ++ ys)
      joined [] ys first more = more
      joined (x ∷ xs) ys first more = (first.0, joined xs ys first.1 more)

  pub all_size : length (flat_map extension_text all) ≤ 2 ^ 31 + 3000
  all_size =
      let s = extension_size subject_key_identifier false key_identifier_text p.subject_key 400 subject_key_is (id_size p.subject_key plan.subject_key) (omega arith) in
      let a = extension_size authority_key_identifier false authority_text p.authority_key 400 authority_key_is (authority_size p.authority_key plan.authority_key) (omega arith) in
      let b = extension_size basic_constraints true basic_text p.authority 400 basic_is (basic_size p.authority plan.authority) (omega arith) in
      let u = extension_size key_usage true uses_text p.uses 400 usage_is (uses_size p.uses) (omega arith) in
      let c = extension_size content_constraints false (λ (text : List ℕ). text) p.constraints (2 ^ 31) constraints_is constraints_size (omega arith) in
      let h = extension_size subject_alt_name false hardware_text p.hardware 400 alt_name_is (hardware_size p.hardware plan.hardware) (omega arith) in
      omega (
        arith,
        s,
        a,
        b,
        u,
        c,
        h,
        parts_size (one_if subject_key_identifier false key_identifier_text p.subject_key) authority,
        parts_size (one_if authority_key_identifier false authority_text p.authority_key) basic,
        parts_size (one_if basic_constraints true basic_text p.authority) uses,
        parts_size (one_if key_usage true uses_text p.uses) constraints,
        parts_size (one_if content_constraints false (λ (text : List ℕ). text) p.constraints) hardware,
      )
    where
      parts_size : (xs ys : List Extension) → length (flat_map extension_text (xs ++ ys))
          ≡ length (flat_map extension_text xs) + length (flat_map extension_text ys)
      parts_size [] ys = omega arith
      parts_size (x ∷ xs) ys =
          omega (
            arith,
            parts_size xs ys,
            length-append (extension_text x) (flat_map extension_text (xs ++ ys)),
            length-append (extension_text x) (flat_map extension_text xs),
          )

  stands : (es : List Extension) → AreExtensions es → StandsFor (written_extensions es) es
  stands [] are = refl
  stands (e ∷ es) are = (are, refl)

  pub says : Extensions
  says = record {
    subject_key = p.subject_key;
    authority_key = p.authority_key;
    ca = option_map planned_rule p.authority;
    usage = option_map planned_usage p.uses;
    constraints = constraints_in p.constraints plan.constraints;
  }

  pub says_planned : SaysPlanned p says
  unfolding says
  says_planned = record {
    subject_key = refl;
    authority_key = refl;
    ca = refl;
    usage = refl;
    constraints = text_in p.constraints plan.constraints;
  }

  rule_valid : (o : Option Authority) → IfSome o (λ a. IfSome a.path_len (λ n. n < 2 ^ 128))
      → IfSome (option_map planned_rule o) (λ r. IfSome r.path_len (λ n. n < 2 ^ 128))
  rule_valid None valid = tt
  rule_valid (Some a) valid = valid

  rule_text : (o : Option Authority) → option_map basic_text o ≡ option_map ca_rule_text (option_map planned_rule o)
  rule_text None = refl
  rule_text (Some a) = refl

  usage_text : (o : Option KeyUses) → option_map uses_text o ≡ option_map bits_text (option_map usage_bits o)
  usage_text None = refl
  usage_text (Some u) = refl

  usage_are : (o : Option KeyUses) → IfSome (option_map usage_bits o) IsUsage
  usage_are None = tt
  usage_are (Some u) = usage_valid u

  usage_gives : (o : Option KeyUses)
      → option_map planned_usage o ≡ option_map (λ b. usage_number b.1) (option_map usage_bits o)
  usage_gives None = refl
  usage_gives (Some Sign) = refl
  usage_gives (Some CertSign) = refl
  usage_gives (Some Both) = refl

  same_text : (o : Option (List ℕ)) → option_map (λ (text : List ℕ). text) o ≡ o
  same_text None = refl
  same_text (Some text) = refl

  pub reads : SaysIn (written_extensions (planned_extensions p)) says
  unfolding says
  reads = (
    all,
    stands all (record { each = each_is; fits = omega (arith, all_size) }),
    record {
      distinct = distinct;
      understood = understood;
      subject_key = (plan.subject_key, subject_value);
      authority_key = (
        named_key p.authority_key,
        (named_valid p.authority_key plan.authority_key, authority_value ∙ named_text p.authority_key),
        named_gives p.authority_key,
      );
      ca = (rule_valid p.authority plan.authority, basic_value ∙ rule_text p.authority);
      usage = (
        option_map usage_bits p.uses,
        (usage_are p.uses, uses_value ∙ usage_text p.uses),
        usage_gives p.uses,
      );
      constraints = (
        are_in p.constraints plan.constraints,
        constraints_value ∙ same_text p.constraints ∙ sym (text_in p.constraints plan.constraints),
      );
    },
  )
