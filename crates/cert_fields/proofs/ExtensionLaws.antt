-- Extensions are read exactly.
use Rattle.std.proofs.Common.{◌≡◌, ◌↔◌, ℕ, ◌<◌, ◌≤◌, ◌^◌, Bool, true, false, eqb, List, [], ◌∷◌, ◌++◌, length}
use Rattle.std.proofs.Common.{length-append, Option, Some, None, refl, sym, ap, subst, ◌∙◌, arith}
use Rattle.std.specs.Prelude.{IfSome, map, bytes_eq, nat_eq, option_map}
use Rattle.std.specs.Cmp.Lexicographic.{pointwise}
use Rattle.std.specs.List.{AllByRecursion, IsDistinct}
use Rattle.std.specs.Option.{option_and_then}
use Rattle.std.proofs.lemmas.Bool.{false≢true}
use Rattle.std.proofs.lemmas.Option.{none-some}
use Rattle.attribute_set.specs.Items.{items_of, AreItems}
use Rattle.attribute_set.specs.Types.{HaveOwnTypes}
use Rattle.attribute_set.proofs.ItemLemmas.{Falls}
use Rattle.attribute_set.proofs.TypeLemmas.{own_where, type_first}
use Rattle.der_core.specs.Boolean.{boolean_contents}
use Rattle.der_core.specs.Element.{enc, AreOctets, HasRoom}
use Rattle.der_core.specs.Number.{number_contents}
use Rattle.der_core.specs.Objects.{IsOid}
use Rattle.der_core.specs.Reads.{Reads, Answers}
use Rattle.der_core.specs.Shapes.{Whole, IsFront, IsWhole, text_if, text_unless, begins_with, mapped}
use Rattle.der_core.proofs.Components.{raw-front, defaulted-whole}
use Rattle.der_core.proofs.Leaves.{bool-whole}
use Rattle.der_core.proofs.Numbers.{some_is}
use Rattle.der_core.proofs.Places.{length-enc}
use Rattle.der_core.proofs.Shapes.{is_tag, element-front, sized-element-front, same-front, alone-whole, before-whole}
use Rattle.der_core.proofs.Shapes.{optional-whole, maybe_before-whole, mapped-whole, listed-whole, listed_end, octets-whole}
use Rattle.der_core.proofs.Shapes.{number-whole, element-falls, enc-begins, length-enc-le, length-number-le}
use Rattle.cert_fields.specs.Certificate.{BitString, bits_text}
use Rattle.cert_fields.specs.Extensions.{Extension, is_false, boolean_text, extension_contents, extension_text}
use Rattle.cert_fields.specs.Extensions.{extensions_text, IsExtension, AreExtensions, StandsFor, IsKeyIdentifier}
use Rattle.cert_fields.specs.Extensions.{key_identifier_text, AuthorityKey, authority_key_contents, authority_key_text}
use Rattle.cert_fields.specs.Extensions.{IsAuthorityKey, IsUsage, usage_number, path_length_text, ca_rule_text, IsCaRule}
use Rattle.cert_fields.specs.Extensions.{value_of, Says, SaysAuthority, SaysUsage}
use Rattle.cert_fields.specs.ExtensionsReading.{boolean_at, value_of_extension, extension_value, extension_of}
use Rattle.cert_fields.specs.ExtensionsReading.{extension_at, extension_list_of, key_identifier_of, authority_serial_of}
use Rattle.cert_fields.specs.ExtensionsReading.{authority_issuer_of, authority_parts_of, authority_value, authority_key_of}
use Rattle.cert_fields.specs.ExtensionsReading.{usage_bits_of, path_length_of, ca_rule_value, ca_rule_fields_of, ca_rule_of}
use Rattle.cert_fields.specs.Constraints.{ContentConstraint, constraints_text, AreConstraints}
use Rattle.cert_fields.specs.ExtensionTypes.{subject_key_identifier, basic_constraints, content_constraints}
use Rattle.cert_fields.specs.ExtensionTypes.{authority_key_identifier, key_usage}
use Rattle.cert_fields.specs.Extensions.{IsUnderstood, ReadAs}
use Rattle.cert_fields.specs.ExtensionsReading.{SaysBut}
use Rattle.cert_fields.specs.declared.extensions.CaRule.{CaRule}
use Rattle.cert_fields.specs.declared.extensions.Extensions.{Extensions}
use Rattle.cert_fields.proofs.CertificateLaws.{bits-front}
use Rattle.cert_fields.proofs.ConstraintLaws.{type-front, one_constraints_text}

enc_some : (tag : ℕ) (contents : List ℕ) → 0 < length (enc tag contents)
enc_some tag contents = omega (arith, length-enc tag contents)

no_tag : (tag other : ℕ) (o : Option (List ℕ)) → eqb other tag ≡ false → begins_with tag (text_if (enc other) o) ≡ false
no_tag tag other None e = refl
no_tag tag other (Some contents) e = rw ((enc-begins other contents).1) e

-- ---- truth values

boolean_fits : (b : Bool) → length (boolean_contents b) < 2 ^ 32
unfolding boolean_contents
boolean_fits true = omega arith
boolean_fits false = omega arith

boolean-front : IsFront boolean_text (λ _. Unit {0}) boolean_at
unfolding boolean_at
boolean-front = element-front 0x01 (is_tag 0x01 refl) (λ b h. boolean_fits b) bool-whole

only_false : (b : Bool) → is_false b ≡ true → b ≡ false
only_false true e = absurd (false≢true e)
only_false false e = refl

-- ---- a list of extensions

value-whole : IsWhole (enc 0x04) HasRoom value_of_extension
unfolding value_of_extension
value-whole = alone-whole (raw-front 0x04 (is_tag 0x04 refl))

abbrev IsInner : Extension → Type 0
IsInner e = IsOid e.kind × HasRoom e.value

abbrev IsFields : List ℕ × (Bool × List ℕ) → Type 0
IsFields x = IsOid x.0 × (Unit {0} × HasRoom x.1.1)

extension-whole : IsWhole extension_contents IsInner extension_of
unfolding extension_of
extension-whole =
    mapped-whole {IsValid = IsFields} extension_value (λ x h. ((h.0, h.1.1), refl))
    (λ e h. ((e.kind, (e.critical, e.value)), (h.0, (tt, h.1)), refl))
    (before-whole type-front
    (defaulted-whole 0x01 is_false false only_false refl (λ v h. enc-begins 0x01 (boolean_contents v))
    (λ w h. rw (enc-begins 0x04 w).1 refl) tt boolean-front value-whole))

pub extension-front : IsFront extension_text IsExtension extension_at
unfolding extension_at
extension-front =
    same-front (λ e h. (record { kind = h.0.0; fits = h.1 }, refl)) (λ e h. ((h.kind, room e h.fits), h.fits))
    (sized-element-front 0x30 (is_tag 0x30 refl) extension-whole)
  where
    room : (e : Extension) → HasRoom (extension_contents e) → HasRoom e.value
    room e h =
        let critical = text_unless is_false boolean_text e.critical in
        omega (arith, h, length-append (enc 0x06 e.kind) (critical ++ enc 0x04 e.value), length-append critical (enc 0x04 e.value), length-enc 0x04 e.value)

pub extension_falls : Falls extension_at
unfolding extension_at
extension_falls = element-falls 0x30 extension_of

pub extensions-whole : IsWhole extensions_text AreExtensions extension_list_of
unfolding extension_list_of
extensions-whole =
    alone-whole (same-front (λ all h. (record { each = h.0; fits = h.1 }, refl)) (λ all h. (h.each, h.fits))
    (sized-element-front 0x30 (is_tag 0x30 refl)
    (listed-whole (λ e h. enc_some 0x30 (extension_contents e)) extension_falls extension-front)))

-- no type stands twice among them
pub own_extensions : (octets : List ℕ) → AreOctets octets → AreItems extension_at octets
    → HaveOwnTypes octets ↔ IsDistinct bytes_eq (map (λ e. e.kind) (items_of extension_at octets))
own_extensions octets octet are =
    own_where extension_at (λ (e : Extension). e.kind) extension-front extension_falls
    (λ e rest h.
    type_first e.kind (text_unless is_false boolean_text e.critical ++ enc 0x04 e.value) rest h.kind.most h.fits)
    octets (items_of extension_at octets) octet are

-- ---- the extension of a type

pub here : (kind : List ℕ) (e : Extension) (more : List Extension) → pointwise nat_eq e.kind kind ≡ true
    → value_of kind (e ∷ more) ≡ Some e.value
here kind e more is = rw is refl

pub further : (kind : List ℕ) (e : Extension) (more : List Extension) → pointwise nat_eq e.kind kind ≡ false
    → value_of kind (e ∷ more) ≡ value_of kind more
further kind e more isnt = rw isnt refl

-- ---- the values of those that are read

pub key_identifier-whole : IsWhole key_identifier_text IsKeyIdentifier key_identifier_of
unfolding key_identifier_of
key_identifier-whole =
    alone-whole (same-front (λ o h. (record { some = h.0; most = h.1 }, refl)) (λ o h. (h.some, h.most))
    (element-front 0x04 (is_tag 0x04 refl) (λ o h. omega (arith, h.1)) octets-whole))

abbrev AuthorityParts : Type 0
AuthorityParts = Option (List ℕ) × (Option (List ℕ) × Option (List ℕ))

abbrev AreParts : AuthorityParts → Type 0
AreParts x = IfSome x.0 IsKeyIdentifier × (IfSome x.1.0 HasRoom × IfSome x.1.1 HasRoom)

abbrev parts_text : AuthorityParts → List ℕ
parts_text x = text_if (enc 0x80) x.0 ++ (text_if (enc 0xA1) x.1.0 ++ text_if (enc 0x82) x.1.1)

other_tags : (issuer serial : Option (List ℕ))
    → begins_with 0x80 (text_if (enc 0xA1) issuer ++ text_if (enc 0x82) serial) ≡ false
other_tags None serial = no_tag 0x80 0x82 serial refl
other_tags (Some contents) serial = rw ((enc-begins 0xA1 contents).1) refl

authority_parts-whole : IsWhole parts_text AreParts authority_parts_of
unfolding authority_parts_of authority_issuer_of authority_serial_of
authority_parts-whole =
    maybe_before-whole 0x80 (λ v h. enc-begins 0x80 v) (λ w h. other_tags w.0 w.1)
    (same-front (λ o h. (record { some = h.0; most = h.1 }, refl)) (λ o h. (h.some, h.most))
    (element-front 0x80 (is_tag 0x80 refl) (λ o h. omega (arith, h.1)) octets-whole))
    (maybe_before-whole 0xA1 (λ v h. enc-begins 0xA1 v) (λ w h. no_tag 0xA1 0x82 w refl)
    (raw-front 0xA1 (is_tag 0xA1 refl))
    (optional-whole (λ s h. enc_some 0x82 s) (alone-whole (raw-front 0x82 (is_tag 0x82 refl)))))

pub authority_key-whole : IsWhole authority_key_text IsAuthorityKey authority_key_of
unfolding authority_key_of
authority_key-whole =
    alone-whole (same-front (λ a h. (record { key = h.0.0; fits = h.1 }, refl))
    (λ a h. ((h.key, room (text_if (enc 0x80) a.key) a.issuer a.serial h.fits), h.fits))
    (sized-element-front 0x30 (is_tag 0x30 refl)
    (mapped-whole {text' = authority_key_contents} {IsValid' = λ a. AreParts (a.key, (a.issuer, a.serial))} authority_value
    (λ x h. (h, refl)) (λ a h. ((a.key, (a.issuer, a.serial)), h, refl)) authority_parts-whole)))
  where
    room : (key : List ℕ) (issuer serial : Option (List ℕ))
        → HasRoom (key ++ (text_if (enc 0xA1) issuer ++ text_if (enc 0x82) serial))
        → IfSome issuer HasRoom × IfSome serial HasRoom
    room key None None h = (tt, tt)
    room key None (Some s) h = (tt, omega (arith, h, length-append key (enc 0x82 s), length-enc 0x82 s))
    room key (Some i) None h =
        (omega (arith, h, length-append key (enc 0xA1 i ++ []), length-append (enc 0xA1 i) [], length-enc 0xA1 i), tt)
    room key (Some i) (Some s) h =
        let all = length-append key (enc 0xA1 i ++ enc 0x82 s) in
        let both = length-append (enc 0xA1 i) (enc 0x82 s) in (
          omega (arith, h, all, both, length-enc 0xA1 i),
          omega (arith, h, all, both, length-enc 0x82 s),
        )

pub usage-whole : IsWhole bits_text IsUsage usage_bits_of
unfolding usage_bits_of
usage-whole =
    alone-whole (same-front (λ b h. (record { bits = h.0; fits = h.1 }, refl)) (λ b h. (h.bits, h.fits)) bits-front)

number_fits : (n : ℕ) → n < 2 ^ 128 → length (number_contents n) < 2 ^ 32
number_fits n h = omega (arith, length-number-le n h)

abbrev rule_contents : CaRule → List ℕ
rule_contents r = text_unless is_false boolean_text r.ca ++ text_if path_length_text r.path_len

path_length-whole : IsWhole (text_if path_length_text) (λ o. IfSome o (λ n. n < 2 ^ 128)) path_length_of
unfolding path_length_of
path_length-whole =
    optional-whole (λ n h. enc_some 0x02 (number_contents n))
    (alone-whole (element-front 0x02 (is_tag 0x02 refl) number_fits number-whole))

abbrev IsRule : Bool × Option ℕ → Type 0
IsRule x = Unit {0} × IfSome x.1 (λ n. n < 2 ^ 128)

rule-whole : IsWhole rule_contents IsCaRule ca_rule_fields_of
unfolding ca_rule_fields_of
rule-whole =
    mapped-whole {IsValid = IsRule} ca_rule_value (λ x h. (h.1, refl)) (λ r h. ((r.ca, r.path_len), (tt, h), refl))
    (defaulted-whole 0x01 is_false false only_false refl (λ v h. enc-begins 0x01 (boolean_contents v))
    (λ w h. no_boolean w) tt boolean-front path_length-whole)
  where
    no_boolean : (o : Option ℕ) → begins_with 0x01 (text_if path_length_text o) ≡ false
    no_boolean None = refl
    no_boolean (Some n) = rw (enc-begins 0x02 (number_contents n)).1 refl

pub ca_rule-whole : IsWhole ca_rule_text IsCaRule ca_rule_of
unfolding ca_rule_of boolean_contents
ca_rule-whole = alone-whole (element-front 0x30 (is_tag 0x30 refl) fits rule-whole)
  where
    path_length : (o : Option ℕ) → IfSome o (λ n. n < 2 ^ 128) → length (text_if path_length_text o) ≤ 30
    path_length None h = omega arith
    path_length (Some n) h = omega (arith, length-enc-le 0x02 (number_contents n) (number_fits n h), length-number-le n h)

    ca_length : (b : Bool) → length (text_unless is_false boolean_text b) ≤ 30
    ca_length true = omega (arith, length-enc-le 0x01 (0xFF ∷ []) (omega arith))
    ca_length false = omega arith

    fits : (r : CaRule) → IsCaRule r → length (rule_contents r) < 2 ^ 32
    fits r h =
        omega (arith, ca_length r.ca, path_length r.path_len h, length-append (text_unless is_false boolean_text r.ca) (text_if path_length_text r.path_len))

-- ---- a value in another form

pub mapped_reads : {V W : Type 0} {text : V → List ℕ} {IsValid : V → Type 0} {read : Whole V} (f : V → W)
    (bytes : List ℕ) (result : Option W) → IsWhole text IsValid read → AreOctets bytes
    → Answers (λ w. w) result (mapped f read bytes) → (w : W)
    → (result ≡ Some w) ↔ ((v : V) × (IsValid v × (bytes ≡ text v)) × (w ≡ f v))
mapped_reads {V} {W} {text} {IsValid} {read} f bytes result laws octets is w = by_case (read bytes) refl result is
  where
    Means : Type 0
    Means = (v : V) × (IsValid v × (bytes ≡ text v)) × (w ≡ f v)

    read_is : (v : V) → IsValid v × (bytes ≡ text v) → read bytes ≡ Some v
    read_is v h = ap read h.1 ∙ laws.again v h.0

    by_case : (r : Option V) → read bytes ≡ r → (result : Option W)
        → Answers (λ w. w) result (mapped f read bytes) → (result ≡ Some w) ↔ Means
    by_case None e None is =
        (λ wrong. absurd (none-some w wrong), λ h. absurd (none-some h.0 (sym e ∙ read_is h.0 h.1)))
    by_case None e (Some x) is = absurd (none-some x (rw e at is))
    by_case (Some v) e None is = absurd (none-some (f v) (sym (rw e at is)))
    by_case (Some v) e (Some x) is =
        let same : f v ≡ x = some_is (f v) x (rw e at is) in (
          λ eq. (v, laws.takes bytes v octets e, sym (same ∙ some_is x w eq)),
          λ h.
              let v_is : v ≡ h.0 = some_is v h.0 (sym e ∙ read_is h.0 h.1) in
              ap (λ (y : W). Some y) (sym same ∙ ap f v_is ∙ sym h.2),
        )

-- ---- what is said by the extension of a type

module _ {V : Type 0} (text : V → List ℕ) (IsValid : V → Type 0) (kind : List ℕ) (all : List Extension) where
  -- there is one, and its value reads
  pub says_some : (octets : List ℕ) (x : V) → value_of kind all ≡ Some octets → Reads text IsValid octets (Some x)
      → (v : Option V) → (Some (Some x) ≡ Some v) ↔ Says text IsValid kind all v
  says_some octets x is reads None = (
    λ e. absurd (none-some x (sym (some_is (Some x) None e))),
    λ h. absurd (none-some octets (sym h.1 ∙ is)),
  )
  says_some octets x is reads (Some v) = (
    λ e.
        let t = (reads v).0 (some_is (Some x) (Some v) e) in
        (t.0, is ∙ ap (λ (o : List ℕ). Some o) t.1),
    λ h. ap (λ (o : Option V). Some o) ((reads v).1 (h.0, some_is octets (text v) (sym is ∙ h.1))),
  )

  -- there is one, and its value doesn't read
  pub says_bad : (octets : List ℕ) → value_of kind all ≡ Some octets → Reads text IsValid octets None
      → (v : Option V) → (None ≡ Some v) ↔ Says text IsValid kind all v
  says_bad octets is reads None =
      (λ e. absurd (none-some {A = Option V} None e), λ h. absurd (none-some octets (sym h.1 ∙ is)))
  says_bad octets is reads (Some v) = (
    λ e. absurd (none-some (Some v) e),
    λ h. absurd (none-some v ((reads v).1 (h.0, some_is octets (text v) (sym is ∙ h.1)))),
  )

  -- there is none
  pub says_none : value_of kind all ≡ None → (v : Option V) → (Some None ≡ Some v) ↔ Says text IsValid kind all v
  says_none is None = (λ e. (tt, is), λ h. refl)
  says_none is (Some v) = (
    λ e. absurd (none-some v (some_is None (Some v) e)),
    λ h. absurd (none-some (text v) (sym is ∙ h.1)),
  )

-- the same of an authority's key identifier
pub authority_some : (all : List Extension) (octets : List ℕ) (result : Option (Option (List ℕ)))
    → value_of authority_key_identifier all ≡ Some octets
    → ((k : Option (List ℕ)) → (result ≡ Some k)
    ↔ ((a : AuthorityKey) × (IsAuthorityKey a × (octets ≡ authority_key_text a)) × (k ≡ a.key)))
    → (k : Option (List ℕ)) → (result ≡ Some k) ↔ SaysAuthority all k
authority_some all octets result is reads k = (
  λ e.
      let t = (reads k).0 e in
      (Some t.0, (t.1.0, is ∙ ap (λ (o : List ℕ). Some o) t.1.1), t.2),
  λ h. back h.0 h.1 h.2,
)
  where
    back : (named : Option AuthorityKey) → Says authority_key_text IsAuthorityKey authority_key_identifier all named
        → k ≡ option_and_then (λ a. a.key) named → result ≡ Some k
    back None says e = absurd (none-some octets (sym says.1 ∙ is))
    back (Some a) says e = (reads k).1 (a, (says.0, some_is octets (authority_key_text a) (sym is ∙ says.1)), e)

pub authority_none : (all : List Extension) → value_of authority_key_identifier all ≡ None → (k : Option (List ℕ))
    → (Some None ≡ Some k) ↔ SaysAuthority all k
authority_none all is k = (
  λ e. (None, (tt, is), sym (some_is None k e)),
  λ h. back h.0 h.1 h.2,
)
  where
    back : (named : Option AuthorityKey) → Says authority_key_text IsAuthorityKey authority_key_identifier all named
        → k ≡ option_and_then (λ a. a.key) named → Some None ≡ Some k
    back None says e = ap (λ (o : Option (List ℕ)). Some o) (sym e)
    back (Some a) says e = absurd (none-some (authority_key_text a) (sym is ∙ says.1))

-- the same of a key usage
abbrev UsageOf : List ℕ → ℕ → Type 0
UsageOf octets n = (b : BitString) × (IsUsage b × (octets ≡ bits_text b)) × (n ≡ usage_number b.1)

pub usage_some : (all : List Extension) (octets : List ℕ) (n : ℕ) → value_of key_usage all ≡ Some octets
    → ((m : ℕ) → (Some n ≡ Some m) ↔ UsageOf octets m)
    → (u : Option ℕ) → (Some (Some n) ≡ Some u) ↔ SaysUsage all u
usage_some all octets n is reads u = (λ e. forth u (some_is (Some n) u e), λ h. back h.0 h.1 h.2)
  where
    forth : (u : Option ℕ) → Some n ≡ u → SaysUsage all u
    forth u e =
        let t = (reads n).0 refl in
        (Some t.0, (t.1.0, is ∙ ap (λ (o : List ℕ). Some o) t.1.1), sym e ∙ ap (λ (m : ℕ). Some m) t.2)

    back : (bits : Option BitString) → Says bits_text IsUsage key_usage all bits
        → u ≡ option_map (λ b. usage_number b.1) bits → Some (Some n) ≡ Some u
    back None says e = absurd (none-some octets (sym says.1 ∙ is))
    back (Some b) says e =
        ap (λ (o : Option ℕ). Some o)
        ((reads (usage_number b.1)).1 (b, (says.0, some_is octets (bits_text b) (sym is ∙ says.1)), refl) ∙ sym e)

pub usage_bad : (all : List Extension) (octets : List ℕ) → value_of key_usage all ≡ Some octets
    → ((m : ℕ) → (None ≡ Some m) ↔ UsageOf octets m) → (u : Option ℕ) → (None ≡ Some u) ↔ SaysUsage all u
usage_bad all octets is reads u = (λ e. absurd (none-some u e), λ h. absurd (back h.0 h.1))
  where
    back : (bits : Option BitString) → Says bits_text IsUsage key_usage all bits → ⊥
    back None says = none-some octets (sym says.1 ∙ is)
    back (Some b) says =
        none-some (usage_number b.1)
        ((reads (usage_number b.1)).1 (b, (says.0, some_is octets (bits_text b) (sym is ∙ says.1)), refl))

pub usage_none : (all : List Extension) → value_of key_usage all ≡ None → (u : Option ℕ)
    → (Some None ≡ Some u) ↔ SaysUsage all u
usage_none all is u = (
  λ e. (None, (tt, is), sym (some_is None u e)),
  λ h. back h.0 h.1 h.2,
)
  where
    back : (bits : Option BitString) → Says bits_text IsUsage key_usage all bits
        → u ≡ option_map (λ b. usage_number b.1) bits → Some None ≡ Some u
    back None says e = ap (λ (o : Option ℕ). Some o) (sym e)
    back (Some b) says e = absurd (none-some (bits_text b) (sym is ∙ says.1))

-- ---- what the extensions of a certificate say

-- no extensions are items of no octets
pub no_items : AreItems extension_at [] × (items_of extension_at [] ≡ [])
no_items = (rw (listed_end extension_at) refl, rw (listed_end extension_at) refl)

abbrev pub ReadFrom : Option (List ℕ) → Extensions → Type 0
ReadFrom part e = (all : List Extension) × StandsFor part all × ReadAs all e

-- [3] holds no list of extensions
pub not_standing : (part : Option (List ℕ)) → ((all : List Extension) → (None ≡ Some all) ↔ StandsFor part all)
    → (e : Extensions) → (None ≡ Some e) ↔ ReadFrom part e
not_standing part stands e =
    (λ wrong. absurd (none-some e wrong), λ h. absurd (none-some h.0 ((stands h.0).1 h.1)))

-- the extensions that stand there are read
pub read_standing : (part : Option (List ℕ)) (list : List Extension) (result : Option Extensions)
    → ((all : List Extension) → (Some list ≡ Some all) ↔ StandsFor part all)
    → ((e : Extensions) → (result ≡ Some e) ↔ ReadAs list e) → (e : Extensions) → (result ≡ Some e) ↔ ReadFrom part e
read_standing part list result stands reads e = (
  λ is. (list, (stands list).0 refl, (reads e).0 is),
  λ h. (reads e).1 (subst (λ (all : List Extension). ReadAs all e) (sym (some_is list h.0 ((stands h.0).1 h.1))) h.2),
)

-- they don't read
pub not_read : (part : Option (List ℕ)) (list : List Extension)
    → ((all : List Extension) → (Some list ≡ Some all) ↔ StandsFor part all) → ((e : Extensions) → ReadAs list e → ⊥)
    → (e : Extensions) → (None ≡ Some e) ↔ ReadFrom part e
not_read part list stands never =
    read_standing part list None stands (λ e. (λ wrong. absurd (none-some e wrong), λ h. absurd (never e h)))

abbrev pub SaysConstraints : List Extension → Option (List ContentConstraint) → Type 0
SaysConstraints list v = Says constraints_text AreConstraints content_constraints list v

-- each that is read here is
pub read_as : (list : List Extension) (k : Option (List ContentConstraint)) (result : Option Extensions)
    → IsDistinct bytes_eq (map (λ e. e.kind) list) → AllByRecursion IsUnderstood list
    → ((v : Option (List ContentConstraint)) → (Some k ≡ Some v) ↔ SaysConstraints list v)
    → ((e : Extensions) → (result ≡ Some e) ↔ SaysBut list e × (e.constraints ≡ k))
    → (e : Extensions) → (result ≡ Some e) ↔ ReadAs list e
read_as list k result distinct understood constraints values e = (
  λ is.
      let h = (values e).0 is in
      record {
        distinct = distinct;
        understood = understood;
        subject_key = h.0.subject_key;
        authority_key = h.0.authority_key;
        ca = h.0.ca;
        usage = h.0.usage;
        constraints = (constraints e.constraints).0 (ap (λ (v : Option (List ContentConstraint)). Some v) (sym h.1));
      },
  λ h. (values e).1 (
    record { subject_key = h.subject_key; authority_key = h.authority_key; ca = h.ca; usage = h.usage },
    sym (some_is k e.constraints ((constraints e.constraints).1 h.constraints)),
  ),
)

same_fields : (s s' a a' : Option (List ℕ)) (c c' : Option CaRule) (u u' : Option ℕ)
    (k k' : Option (List ContentConstraint)) → s ≡ s' → a ≡ a' → c ≡ c' → u ≡ u' → k ≡ k'
    → (let these : Extensions = record { subject_key = s; authority_key = a; ca = c; usage = u; constraints = k } in
    let those : Extensions = record { subject_key = s'; authority_key = a'; ca = c'; usage = u'; constraints = k' } in
    these ≡ those)
same_fields s s' a a' c c' u u' k k' e1 e2 e3 e4 e5 = rw (e1, e2, e3, e4, e5) refl

-- the four that need no memory
pub values_are : (list : List Extension) (s a : Option (List ℕ)) (c : Option CaRule) (u : Option ℕ)
    (k : Option (List ContentConstraint))
    → ((v : Option (List ℕ)) → (Some s ≡ Some v)
    ↔ Says key_identifier_text IsKeyIdentifier subject_key_identifier list v)
    → ((v : Option (List ℕ)) → (Some a ≡ Some v) ↔ SaysAuthority list v)
    → ((v : Option CaRule) → (Some c ≡ Some v) ↔ Says ca_rule_text IsCaRule basic_constraints list v)
    → ((v : Option ℕ) → (Some u ≡ Some v) ↔ SaysUsage list v) → (e : Extensions)
    → (Some (record { subject_key = s; authority_key = a; ca = c; usage = u; constraints = k }) ≡ Some e)
    ↔ SaysBut list e × (e.constraints ≡ k)
values_are list s a c u k subject authority rule usage e = (
  λ is. subst (λ (x : Extensions). SaysBut list x × (x.constraints ≡ k)) (some_is _ e is) (
    record {
      subject_key = (subject s).0 refl;
      authority_key = (authority a).0 refl;
      ca = (rule c).0 refl;
      usage = (usage u).0 refl;
    },
    refl,
  ),
  λ h. ap (λ (x : Extensions). Some x) (same_fields s e.subject_key a e.authority_key c e.ca u e.usage k e.constraints
      (some_is s e.subject_key ((subject e.subject_key).1 h.0.subject_key))
      (some_is a e.authority_key ((authority e.authority_key).1 h.0.authority_key))
      (some_is c e.ca ((rule e.ca).1 h.0.ca)) (some_is u e.usage ((usage e.usage).1 h.0.usage)) (sym h.1)),
)

-- one of them doesn't read
pub no_values : (list : List Extension) (k : Option (List ContentConstraint)) → ((e : Extensions) → SaysBut list e → ⊥)
    → (e : Extensions) → (None ≡ Some e) ↔ SaysBut list e × (e.constraints ≡ k)
no_values list k never e = (λ wrong. absurd (none-some e wrong), λ h. absurd (never e h.0))

-- ---- one reading

-- two values never share a text
Tells : {V : Type 0} → (V → List ℕ) → (V → Type 0) → Type 0
Tells {V} text IsValid = (v w : V) → IsValid v → IsValid w → text v ≡ text w → v ≡ w

whole_tells : {V : Type 0} {text : V → List ℕ} {IsValid : V → Type 0} {read : Whole V} → IsWhole text IsValid read
    → Tells text IsValid
unfolding Tells
whole_tells {read = read} laws v w h k e = some_is v w (sym (laws.again v h) ∙ ap read e ∙ laws.again w k)

one_said : {V : Type 0} (text : V → List ℕ) (IsValid : V → Type 0) → Tells text IsValid → (octets : Option (List ℕ))
    (v w : Option V) → IfSome v IsValid × (octets ≡ option_map text v) → IfSome w IsValid × (octets ≡ option_map text w)
    → v ≡ w
unfolding Tells
one_said text IsValid tells octets None None h k = refl
one_said text IsValid tells octets None (Some w) h k = absurd (none-some (text w) (sym h.1 ∙ k.1))
one_said text IsValid tells octets (Some v) None h k = absurd (none-some (text v) (sym k.1 ∙ h.1))
one_said {V} text IsValid tells octets (Some v) (Some w) h k =
    ap (λ (x : V). Some x) (tells v w h.0 k.0 (some_is (text v) (text w) (sym h.1 ∙ k.1)))

one_standing : (part : Option (List ℕ)) (these those : List Extension) → StandsFor part these → StandsFor part those
    → these ≡ those
one_standing None these those h k = h ∙ sym k
one_standing (Some octets) these those h k =
    some_is these those (sym (extensions-whole.again these h.0) ∙ ap extension_list_of (sym h.1 ∙ k.1)
    ∙ extensions-whole.again those k.0)

one_reading : (list : List Extension) (these those : Extensions) → ReadAs list these → ReadAs list those
    → these ≡ those
unfolding Tells
one_reading list these those h k =
    same_fields these.subject_key those.subject_key these.authority_key those.authority_key these.ca those.ca these.usage
    those.usage these.constraints those.constraints
    (one_said key_identifier_text IsKeyIdentifier (whole_tells key_identifier-whole)
    (value_of subject_key_identifier list) these.subject_key those.subject_key h.subject_key k.subject_key)
    (h.authority_key.2 ∙ ap (option_and_then (λ (a : AuthorityKey). a.key))
    (one_said authority_key_text IsAuthorityKey (whole_tells authority_key-whole)
    (value_of authority_key_identifier list) h.authority_key.0 k.authority_key.0 h.authority_key.1 k.authority_key.1)
    ∙ sym k.authority_key.2)
    (one_said ca_rule_text IsCaRule (whole_tells ca_rule-whole) (value_of basic_constraints list) these.ca those.ca
    h.ca k.ca)
    (h.usage.2 ∙ ap (option_map (λ (b : BitString). usage_number b.1))
    (one_said bits_text IsUsage (whole_tells usage-whole) (value_of key_usage list) h.usage.0 k.usage.0 h.usage.1
    k.usage.1)
    ∙ sym k.usage.2)
    (one_said constraints_text AreConstraints constraints_tell (value_of content_constraints list) these.constraints
    those.constraints h.constraints k.constraints)
  where
    constraints_tell : Tells constraints_text AreConstraints
    constraints_tell v w h k e = one_constraints_text v w h k e

pub one_reading_from : (part : Option (List ℕ)) (these those : Extensions) → ReadFrom part these
    → ReadFrom part those → these ≡ those
one_reading_from part these those h k =
    one_reading k.0 these those
    (subst (λ (all : List Extension). ReadAs all these) (one_standing part h.0 k.0 h.1 k.1) h.2) k.2
