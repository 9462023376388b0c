-- Content constraints are read exactly.
use Rattle.std.proofs.Common.{◌≡◌, ◌↔◌, ℕ, zero, suc, ◌<◌, Bool, true, false, eqb, cond, List, [], ◌∷◌, ◌++◌}
use Rattle.std.proofs.Common.{length, Option, Some, None, refl, sym, ap, subst, ◌∙◌, inl, inr, arith}
use Rattle.std.specs.Prelude.{IsTrue, IfSome, IfOk, Result, Ok, Err, not, map, bytes_eq}
use Rattle.std.specs.List.{AllByRecursion, IsDistinct, flat_map}
use Rattle.std.specs.Option.{unwrap_or}
use Rattle.std.proofs.lemmas.Bool.{eqb-true, ne_eqb, cases_Bool, false≢true}
use Rattle.std.proofs.lemmas.List.{length-append}
use Rattle.std.proofs.lemmas.Option.{none-some}
use Rattle.der_core.specs.Attribute.{Attribute, attribute_contents, attribute_text, IsAttribute}
use Rattle.der_core.specs.AttributeReading.{attribute_of}
use Rattle.der_core.specs.Element.{enc, AreOctets, HasRoom}
use Rattle.der_core.specs.Objects.{IsOid}
use Rattle.der_core.specs.Reading.{◌>>?◌, tagged_of}
use Rattle.der_core.specs.Shapes.{Whole, IsFront, IsWhole, IsOneElement, text_if, text_unless, any_element, tested, listed, begins_with, alone, element, anything}
use Rattle.der_core.proofs.AttributeLaws.{any_element_falls, attr-whole}
use Rattle.der_core.proofs.Components.{defaulted-whole}
use Rattle.der_core.proofs.Digits.{AreOctets-left}
use Rattle.der_core.proofs.Numbers.{some_bind, some_is}
use Rattle.der_core.proofs.Places.{length-enc}
use Rattle.der_core.proofs.Shapes.{is_tag, element-front, sized-element-front, same-front, alone-whole, before-whole}
use Rattle.der_core.proofs.Shapes.{optional-whole, mapped-whole, tested-whole, listed-whole, listed_end, oid-whole}
use Rattle.der_core.proofs.Shapes.{any_element-front, enc-begins, element-falls}
use Rattle.der_core.specs.Reads.{Reads, Answers}
use Rattle.attribute_set.specs.Items.{items_of, AreItems}
use Rattle.attribute_set.specs.Types.{HaveOwnTypes}
use Rattle.attribute_set.proofs.ItemLemmas.{is_items}
use Rattle.attribute_set.proofs.TypeLemmas.{own_where, type_first}
use Rattle.cert_fields.specs.AnchorView.{kept_constraints}
use Rattle.cert_fields.specs.Constraints.{ContentConstraint, is_source, source_number, source_text, is_unconstrained}
use Rattle.cert_fields.specs.Constraints.{attributes_text, entry_contents, entry_text, constraints_text}
use Rattle.cert_fields.specs.Constraints.{IsConstrained, IsEntry, HasOwnTypes, AreConstraints}
use Rattle.cert_fields.specs.ConstraintsReading.{type_at, source_of, source_at, has_values, constrained_at, some_octets}
use Rattle.cert_fields.specs.ConstraintsReading.{attributes_of, attributes_list_of, list_of, entry_value, entry_of, entry_at, entries_of, HaveOwnContents}

-- ---- leaves

pub type-front : IsFront (enc 0x06) IsOid type_at
unfolding type_at
type-front = element-front 0x06 (is_tag 0x06 refl) (λ o h. omega (arith, h.most)) oid-whole

source-whole : IsWhole (λ can_source. source_number can_source ∷ []) (λ can_source. Unit {0}) source_of
unfolding source_of
source-whole = record { takes = takes; again = again }
  where
    takes : (bytes : List ℕ) (v : Bool) → AreOctets bytes → source_of bytes ≡ Some v
        → Unit {0} × (bytes ≡ source_number v ∷ [])
    takes [] v octets e = absurd (none-some v e)
    takes (n ∷ (o ∷ os)) v octets e = absurd (none-some v e)
    takes (n ∷ []) v octets e = elim (cases_Bool (eqb n 0)) [
      | inl is ↦ (tt, rw (eqb-true n 0 is, ← some_is true v (rw is at e)) refl)
      | inr some ↦ elim (cases_Bool (eqb n 1)) [
        | inl one ↦ (tt, rw (eqb-true n 1 one, ← some_is false v (rw (some, one) at e)) refl)
        | inr more ↦ absurd (none-some v (rw (some, more) at e))
      ]
    ]

    again : (v : Bool) → Unit {0} → source_of (source_number v ∷ []) ≡ Some v
    again true h = refl
    again false h = refl

source-front : IsFront source_text (λ can_source. Unit {0}) source_at
unfolding source_at
source-front = element-front 0x0A (is_tag 0x0A refl) (λ can_source h. omega arith) source-whole

-- ---- constrained attributes

constrained-whole : IsWhole attribute_text (λ a. IsAttribute a × IsTrue (has_values a)) (tested has_values attribute_of)
constrained-whole = tested-whole has_values attr-whole

suc_zero : (n : ℕ) → eqb (suc n) 0 ≡ false
suc_zero n = ne_eqb (suc n) 0 (λ e. omega arith)

not_zero : (n : ℕ) → IsTrue (not (eqb n 0)) → 0 < n
not_zero zero h = absurd cc
not_zero (suc n) h = omega arith

is_some : (n : ℕ) → 0 < n → IsTrue (not (eqb n 0))
is_some zero h = absurd (omega (arith, h))
is_some (suc n) h = rw (suc_zero n) refl

one_element : (a : Attribute) → IsAttribute a → IsOneElement (attribute_text a)
one_element a h =
    (0x30, attribute_contents a, record { octet = omega arith; low_bits = omega arith; fits = h.fits }, refl)

constrained-front : IsFront attribute_text IsConstrained constrained_at
unfolding constrained_at
constrained-front = record {
  takes = λ bytes x octets e.
      let b = some_bind (any_element bytes) (λ y. tested has_values attribute_of y.0 >>? λ a. Some (a, y.1)) x e in
      let c = some_bind (tested has_values attribute_of b.0.0) (λ a. Some (a, b.0.1)) x b.2 in
      let t = any_element-front.takes bytes b.0 octets b.1 in
      let w = constrained-whole.takes b.0.0 c.0 (AreOctets-left b.0.0 b.0.1 (subst AreOctets t.1 octets)) c.1 in
      subst (λ (y : Attribute × List ℕ). IsConstrained y.0
      × (bytes ≡ attribute_text y.0 ++ y.1)) (some_is (c.0, b.0.1) x c.2) (
        record { attribute = w.0.0; some = not_zero (length c.0.values) w.0.1 },
        t.1 ∙ ap (λ (z : List ℕ). z ++ b.0.1) w.1,
      );
  again = λ a rest h.
      rw (
        any_element-front.again (attribute_text a) rest (one_element a h.attribute),
        constrained-whole.again a (h.attribute, is_some (length a.values) h.some),
      ) refl;
}

pub constrained_falls : (bytes : List ℕ) (x : Attribute × List ℕ) → constrained_at bytes ≡ Some x
    → length x.1 < length bytes
unfolding constrained_at
constrained_falls bytes x e =
    let b = some_bind (any_element bytes) (λ y. tested has_values attribute_of y.0 >>? λ a. Some (a, y.1)) x e in
    let c = some_bind (tested has_values attribute_of b.0.0) (λ a. Some (a, b.0.1)) x b.2 in
    subst (λ (y : Attribute × List ℕ). length y.1 < length bytes) (some_is (c.0, b.0.1) x c.2)
    (any_element_falls bytes b.0 b.1)

pub valueless : (octets : List ℕ) (a : Attribute) (none : Bool) → attribute_of octets ≡ Some a
    → none ≡ eqb (length a.values) 0 → none ≡ true → tested has_values attribute_of octets ≡ None
valueless octets a none e is end = rw (e, sym is ∙ end) refl

pub kept_where_valued : (octets : List ℕ) (a : Attribute) (none : Bool) → attribute_of octets ≡ Some a
    → none ≡ eqb (length a.values) 0 → none ≡ false → tested has_values attribute_of octets ≡ Some a
kept_where_valued octets a none e is some = rw (e, sym is ∙ some) refl

-- ---- what octets are, where there are any

some_octets-whole : {V : Type 0} {text : V → List ℕ} {IsValid : V → Type 0} {read : Whole V} → IsWhole text IsValid read
    → IsWhole text (λ v. IsValid v × (0 < length (text v))) (some_octets read)
some_octets-whole {V} {text} {IsValid} {read} laws = record { takes = takes; again = again }
  where
    takes : (bytes : List ℕ) (v : V) → AreOctets bytes → some_octets read bytes ≡ Some v
        → (IsValid v × (0 < length (text v))) × (bytes ≡ text v)
    takes [] v octets e = absurd (none-some v e)
    takes (b ∷ bs) v octets e =
        let t = laws.takes (b ∷ bs) v octets (rw (suc_zero (length bs)) at e) in ((t.0, omega (arith, ap length t.1)), t.1)

    again : (v : V) → IsValid v × (0 < length (text v)) → some_octets read (text v) ≡ Some v
    again v h = rw (ne_eqb (length (text v)) 0 (λ e. omega (arith, e, h.1))) (laws.again v h.0)

enc_some : (tag : ℕ) (contents : List ℕ) → 0 < length (enc tag contents)
enc_some tag contents = omega (arith, length-enc tag contents)

abbrev AreConstrained : List Attribute → Type 0
AreConstrained attributes = AllByRecursion IsConstrained attributes × HasRoom (flat_map attribute_text attributes)

attributes-whole : IsWhole (text_unless is_unconstrained attributes_text) AreConstrained attributes_of
unfolding attributes_of attributes_list_of
attributes-whole =
    mapped-whole (λ (o : Option (List Attribute)). unwrap_or o []) forth back
    (optional-whole (λ attributes h. enc_some 0x30 (flat_map attribute_text attributes))
    (alone-whole (sized-element-front 0x30 (is_tag 0x30 refl)
    (some_octets-whole (listed-whole (λ a h. enc_some 0x30 (attribute_contents a)) constrained_falls constrained-front)))))
  where
    Listed : List Attribute → Type 0
    Listed attributes =
        (AllByRecursion IsConstrained attributes × (0 < length (flat_map attribute_text attributes)))
        × HasRoom (flat_map attribute_text attributes)

    forth : (o : Option (List Attribute)) → IfSome o Listed
        → AreConstrained (unwrap_or o [])
        × (text_if attributes_text o ≡ text_unless is_unconstrained attributes_text (unwrap_or o []))
    forth None h = ((tt, omega arith), refl)
    forth (Some []) h = absurd (omega (arith, h.0.1))
    forth (Some (a ∷ more)) h = ((h.0.0, h.1), rw (suc_zero (length more)) refl)

    back : (attributes : List Attribute) → AreConstrained attributes
        → (o : Option (List Attribute)) × IfSome o Listed × (unwrap_or o [] ≡ attributes)
    back [] h = (None, tt, refl)
    back (a ∷ more) h = (
      Some (a ∷ more),
      (
        (
          h.0,
          omega (
            arith,
            enc_some 0x30 (attribute_contents a),
            length-append (attribute_text a) (flat_map attribute_text more),
          ),
        ),
        h.1,
      ),
      refl,
    )

-- what a SEQUENCE holds is read from its contents
abbrev pass : {V : Type 0} → List ℕ → V → Option (V × List ℕ)
pass rest v = Some (v, rest)

abbrev cut : {V : Type 0} → V × List ℕ → Option V
cut x = cond (eqb (length x.1) 0) (Some x.0) None

cut_end : {V : Type 0} (w : Option V) (rest : List ℕ) → eqb (length rest) 0 ≡ true → ((w >>? pass rest) >>? cut) ≡ w
cut_end None rest e = refl
cut_end (Some v) rest e = rw e refl

cut_more : {V : Type 0} (w : Option V) (rest : List ℕ) → eqb (length rest) 0 ≡ false
    → ((w >>? pass rest) >>? cut) ≡ None
cut_more None rest e = refl
cut_more (Some v) rest e = rw e refl

pub list_is : {V : Type 0} (whole : Whole V) (bytes : List ℕ)
    → alone (element 0x30 (some_octets whole)) bytes ≡ (list_of bytes >>? whole)
unfolding list_of
list_is {V} whole bytes = by_tagged (tagged_of 0x30 bytes)
  where
    by_end : (contents rest : List ℕ)
        → ((whole contents >>? pass rest) >>? cut) ≡ (cond (eqb (length rest) 0) (Some contents) None >>? whole)
    by_end contents rest = elim (cases_Bool (eqb (length rest) 0)) [
      | inl e ↦
          cut_end (whole contents) rest e ∙ sym (ap (λ (b : Bool). cond b (Some contents) None >>? whole) e)
      | inr e ↦
          cut_more (whole contents) rest e ∙ sym (ap (λ (b : Bool). cond b (Some contents) None >>? whole) e)
    ]

    by_tagged : (r : Option (List ℕ × List ℕ))
        → ((r >>? λ x. some_octets whole x.0 >>? pass x.1) >>? cut)
        ≡ (((r >>? λ x. some_octets anything x.0 >>? pass x.1) >>? cut) >>? whole)
    by_tagged None = refl
    by_tagged (Some x) = elim (cases_Bool (eqb (length x.0) 0)) [
      | inl e ↦ rw e refl
      | inr e ↦ rw e (by_end x.0 x.1)
    ]

pub attributes_are : (bytes contents : List ℕ) → list_of bytes ≡ Some contents
    → attributes_list_of bytes ≡ listed constrained_at contents
unfolding attributes_list_of
attributes_are bytes contents e =
    list_is (listed constrained_at) bytes ∙ ap (λ (o : Option (List ℕ)). o >>? listed constrained_at) e

pub attributes_none : (bytes : List ℕ) → list_of bytes ≡ None → attributes_list_of bytes ≡ None
unfolding attributes_list_of
attributes_none bytes e =
    list_is (listed constrained_at) bytes ∙ ap (λ (o : Option (List ℕ)). o >>? listed constrained_at) e

pub no_attributes : AreItems constrained_at []
no_attributes = rw (listed_end constrained_at) refl

pub attributes_end : (bytes kept : List ℕ) → bytes ≡ [] → kept ≡ bytes
    → (attributes_of bytes ≡ Some (items_of constrained_at kept)) × AreItems constrained_at kept
unfolding attributes_of
attributes_end bytes kept none same = rw (same, none, listed_end constrained_at) (refl, refl)

pub attributes_left : (bytes : List ℕ) (result : Option (List Attribute)) → 0 < length bytes
    → Answers (λ a. a) result (attributes_list_of bytes) → Answers (λ a. a) result (attributes_of bytes)
unfolding attributes_of
attributes_left bytes None some is = rw (ne_eqb (length bytes) 0 (λ e. omega (arith, e, some)), is) refl
attributes_left bytes (Some a) some is = rw (ne_eqb (length bytes) 0 (λ e. omega (arith, e, some)), is) refl

-- no type stands twice
abbrev pub OwnKinds : List Attribute → Type 0
OwnKinds attributes = IsDistinct bytes_eq (map (λ a. a.kind) attributes)

pub own_kinds : (octets : List ℕ) → AreOctets octets → AreItems constrained_at octets
    → HaveOwnTypes octets ↔ OwnKinds (items_of constrained_at octets)
own_kinds octets octet are =
    own_where constrained_at (λ (a : Attribute). a.kind) constrained-front constrained_falls
    (λ a rest h. type_first a.kind (enc 0x31 a.values) rest h.attribute.kind.most h.attribute.fits) octets
    (items_of constrained_at octets) octet are

-- ---- entries

no_source : (attributes : List Attribute) → begins_with 0x0A (text_unless is_unconstrained attributes_text attributes) ≡ false
no_source [] = refl
no_source (a ∷ more) = rw (suc_zero (length more), (enc-begins 0x30 (flat_map attribute_text (a ∷ more))).1) refl

abbrev IsFields : List ℕ × (Bool × List Attribute) → Type 0
IsFields x = IsOid x.0 × (Unit {0} × AreConstrained x.1.1)

abbrev IsInner : ContentConstraint → Type 0
IsInner e = IsOid e.content × AreConstrained e.attributes

entry-whole : IsWhole entry_contents IsInner entry_of
unfolding entry_of
entry-whole =
    mapped-whole {IsValid = IsFields} entry_value (λ x h. ((h.0, h.1.1), refl))
    (λ e h. ((e.content, (e.can_source, e.attributes)), (h.0, (tt, h.1)), refl))
    (before-whole type-front
    (defaulted-whole 0x0A is_source true (λ v e. e) refl (λ v h. enc-begins 0x0A (source_number v ∷ []))
    (λ w h. no_source w) tt source-front attributes-whole))

room : (front : List ℕ) (source : List ℕ) (attributes : List Attribute)
    → HasRoom (front ++ (source ++ text_unless is_unconstrained attributes_text attributes))
    → HasRoom (flat_map attribute_text attributes)
room front source [] h = omega arith
room front source (a ∷ more) h =
    let all = flat_map attribute_text (a ∷ more) in
    let there : HasRoom (front ++ (source ++ enc 0x30 all)) = rw (suc_zero (length more)) at h in
    omega (arith, there, length-append front (source ++ enc 0x30 all), length-append source (enc 0x30 all), length-enc 0x30 all)

entry-front : IsFront entry_text IsEntry entry_at
unfolding entry_at
entry-front =
    same-front
    (λ e h. (record { content = h.0.0; attributes = h.0.1.0; fits = h.1 }, refl))
    (λ e h. (
      (
        h.content,
        (
          h.attributes,
          room (enc 0x06 e.content) (text_unless is_source source_text e.can_source)
              e.attributes h.fits,
        ),
      ),
      h.fits,
    ))
    (sized-element-front 0x30 (is_tag 0x30 refl) entry-whole)

pub entry_falls : (bytes : List ℕ) (x : ContentConstraint × List ℕ) → entry_at bytes ≡ Some x
    → length x.1 < length bytes
unfolding entry_at
entry_falls = element-falls 0x30 entry_of

-- entries that have a text, but for types that stand twice
abbrev pub AreEntries : List ContentConstraint → Type 0
AreEntries entries =
    (AllByRecursion IsEntry entries × (0 < length (flat_map entry_text entries))) × HasRoom (flat_map entry_text entries)

pub entries-whole : IsWhole constraints_text AreEntries entries_of
unfolding entries_of
entries-whole =
    alone-whole (sized-element-front 0x30 (is_tag 0x30 refl)
    (some_octets-whole (listed-whole (λ e h. enc_some 0x30 (entry_contents e)) entry_falls entry-front)))

pub entries_some : (entries : List ContentConstraint) → 0 < length (flat_map entry_text entries) → 0 < length entries
entries_some [] h = absurd (omega (arith, h))
entries_some (e ∷ more) h = omega arith

pub some_entries : (entries : List ContentConstraint) → 0 < length entries → 0 < length (flat_map entry_text entries)
some_entries [] h = absurd (omega (arith, h))
some_entries (e ∷ more) h =
    omega (arith, enc_some 0x30 (entry_contents e), length-append (entry_text e) (flat_map entry_text more))

-- ---- what is answered

pub own_contents : (octets : List ℕ) → AreOctets octets → AreItems entry_at octets
    → HaveOwnTypes octets ↔ IsDistinct bytes_eq (map (λ e. e.content) (items_of entry_at octets))
own_contents octets octet are =
    own_where entry_at (λ (e : ContentConstraint). e.content) entry-front entry_falls
    (λ e rest h.
    type_first e.content
    (text_unless is_source source_text e.can_source ++ text_unless is_unconstrained attributes_text e.attributes) rest
    h.content.most h.fits)
    octets (items_of entry_at octets) octet are

-- what a test tells, of the same in other words
pub own_told : {A B E : Type 0} (r : Result Bool E) → IfOk r (λ own. IsTrue own ↔ A) → A ↔ B → IfOk r (λ own. IsTrue own ↔ B)
own_told (Ok own) told same = (λ is. same.0 (told.0 is), λ b. told.1 (same.1 b))
own_told (Err e) told same = told

-- the tests are made one after the other
pub all_told : {E : Type 0} (octets : List ℕ) (r : Result Bool E) → AreOctets octets → AreItems entry_at octets
    → HaveOwnTypes octets → IfOk r (λ own. IsTrue own ↔ AllByRecursion HasOwnTypes (items_of entry_at octets))
    → IfOk r (λ own. IsTrue own ↔ HaveOwnContents octets)
all_told octets r octet are types told =
    own_told r told (
      λ all. record { items = are; contents = (own_contents octets octet are).0 types; types = all },
      λ own. own.types,
    )

pub not_own : (octets : List ℕ) → (HaveOwnContents octets → ⊥) → IsTrue false ↔ HaveOwnContents octets
not_own octets never = (λ wrong. absurd (false≢true wrong), λ own. absurd (never own))

entries_are : (bytes contents : List ℕ) → list_of bytes ≡ Some contents → entries_of bytes ≡ listed entry_at contents
unfolding entries_of
entries_are bytes contents e = list_is (listed entry_at) bytes ∙ ap (λ (o : Option (List ℕ)). o >>? listed entry_at) e

again : (entries : List ContentConstraint) → AreConstraints entries → entries_of (constraints_text entries) ≡ Some entries
again entries h = entries-whole.again entries ((h.each, some_entries entries h.some), h.fits)

pub reads_some : (bytes contents : List ℕ) → AreOctets bytes → list_of bytes ≡ Some contents → HaveOwnContents contents
    → Reads constraints_text AreConstraints bytes (Some (items_of entry_at contents))
reads_some bytes contents octets e own entries =
    let these = items_of entry_at contents in
    let reads = entries_are bytes contents e ∙ own.items in
    let t = entries-whole.takes bytes these octets reads in
    let valid : AreConstraints these = record {
      some = entries_some these t.0.0.1;
      each = t.0.0.0;
      contents = own.contents;
      attributes = own.types;
      fits = t.0.1;
    } in (
      λ is. subst (λ (all : List ContentConstraint). AreConstraints all × (bytes ≡ constraints_text all))
          (some_is these entries is) (valid, t.1),
      λ h. sym reads ∙ ap entries_of h.1 ∙ again entries h.0,
    )

pub reads_none : (bytes contents : List ℕ) → list_of bytes ≡ Some contents → (HaveOwnContents contents → ⊥)
    → Reads constraints_text AreConstraints bytes None
reads_none bytes contents e never entries = (
  λ is. absurd (none-some entries is),
  λ h.
      let reads : listed entry_at contents ≡ Some entries =
      sym (entries_are bytes contents e) ∙ ap entries_of h.1 ∙ again entries h.0 in
      let same : entries ≡ items_of entry_at contents = sym (is_items entry_at contents entries reads) in
      absurd (never (record {
        items = reads ∙ ap (λ (all : List ContentConstraint). Some all) same;
        contents = subst (λ (all : List ContentConstraint). IsDistinct bytes_eq (map (λ o. o.content) all)) same h.0.contents;
        types = subst (AllByRecursion HasOwnTypes) same h.0.attributes;
      })),
)

entries_none : (bytes : List ℕ) → list_of bytes ≡ None → entries_of bytes ≡ None
unfolding entries_of
entries_none bytes e = list_is (listed entry_at) bytes ∙ ap (λ (o : Option (List ℕ)). o >>? listed entry_at) e

pub reads_no_list : (bytes : List ℕ) → list_of bytes ≡ None → Reads constraints_text AreConstraints bytes None
reads_no_list bytes e entries = (
  λ is. absurd (none-some entries is),
  λ h. absurd (none-some entries (sym (entries_none bytes e) ∙ ap entries_of h.1 ∙ again entries h.0)),
)

pub one_constraints_text : (these those : List ContentConstraint) → AreConstraints these → AreConstraints those
    → constraints_text these ≡ constraints_text those → these ≡ those
one_constraints_text these those h k e = some_is these those (sym (again these h) ∙ ap entries_of e ∙ again those k)

-- ---- what is left to be passed

pub entries_left : (octets : List ℕ) → AreOctets octets → AreItems entry_at octets
    → AllByRecursion IsEntry (items_of entry_at octets) × (octets ≡ flat_map entry_text (items_of entry_at octets))
entries_left octets are read =
    (listed-whole (λ e h. enc_some 0x30 (entry_contents e)) entry_falls entry-front).takes octets
    (items_of entry_at octets) are read

pub attributes_remain : (octets : List ℕ) → AreOctets octets → AreItems constrained_at octets
    → AllByRecursion IsConstrained (items_of constrained_at octets)
    × (octets ≡ flat_map attribute_text (items_of constrained_at octets))
attributes_remain octets are read =
    (listed-whole (λ a h. enc_some 0x30 (attribute_contents a)) constrained_falls constrained-front).takes octets
    (items_of constrained_at octets) are read

-- octets that are a text of constraints are kept as them
pub kept_are : (text contents : List ℕ) (entries : List ContentConstraint) → AreOctets text → AreConstraints entries
    → text ≡ constraints_text entries → list_of text ≡ Some contents
    → HaveOwnContents contents × (items_of entry_at contents ≡ kept_constraints text)
kept_are text contents entries octets are is e =
    let reads : listed entry_at contents ≡ Some entries =
    sym (entries_are text contents e) ∙ ap entries_of is ∙ again entries are in
    let same : entries ≡ items_of entry_at contents = sym (is_items entry_at contents entries reads) in (
      record {
        items = reads ∙ ap (λ (all : List ContentConstraint). Some all) same;
        contents = subst (λ (all : List ContentConstraint). IsDistinct bytes_eq (map (λ o. o.content) all)) same are.contents;
        types = subst (AllByRecursion HasOwnTypes) same are.attributes;
      },
      ap (λ (o : Option (List ContentConstraint)). unwrap_or o []) (sym (entries_are text contents e)),
    )

pub kept_is_list : (text : List ℕ) (entries : List ContentConstraint) → AreConstraints entries
    → text ≡ constraints_text entries → list_of text ≡ None → ⊥
kept_is_list text entries are is e = none-some entries (sym (entries_none text e) ∙ ap entries_of is ∙ again entries are)

pub kept_constraints_text : (entries : List ContentConstraint) → AreConstraints entries
    → kept_constraints (constraints_text entries) ≡ entries
kept_constraints_text entries are = ap (λ (o : Option (List ContentConstraint)). unwrap_or o []) (again entries are)
