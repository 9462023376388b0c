-- The attributes of a type are found, and the package that attributes describe is read.
use Rattle.std.proofs.Common.{◌≡◌, ℕ, zero, suc, ◌^◌, ◌<◌, true, false, eqb, List, [], ◌∷◌, length, map}
use Rattle.std.proofs.Common.{Option, Some, None, refl, sym, subst, ◌∙◌, inl, inr, arith}
use Rattle.std.specs.Prelude.{bytes_eq, ◌↔◌, IsTrue, IfSome, nat_eq, option_map, slice_index_or}
use Rattle.std.specs.Cmp.Lexicographic.{pointwise, same_text, other_text}
use Rattle.std.specs.List.{AllByRecursion}
use Rattle.std.proofs.lemmas.Bool.{cases_Bool, false≢true, eqb-true, eq-eqb}
use Rattle.std.proofs.lemmas.Map.Keys.{IsDistinct-head, IsDistinct-tail}
use Rattle.std.proofs.lemmas.Slice.Eq.{bytes_eq-Decides}
use Rattle.std.proofs.lemmas.Option.{none-some}
use Rattle.der_core.specs.Attribute.{Attribute}
use Rattle.der_core.specs.Element.{enc}
use Rattle.der_core.specs.Objects.{IsOid}
use Rattle.der_core.specs.Reads.{Reads, Answers}
use Rattle.der_core.specs.Shapes.{Whole, IsWhole, tested}
use Rattle.der_core.specs.Time.{time_text, IsTime}
use Rattle.der_core.proofs.Numbers.{some_is}
use Rattle.der_core.proofs.Shapes.{alone-whole, tested-whole}
use Rattle.der_core.proofs.TimeValues.{time-front}
use Rattle.package_attrs.specs.declared.package.Info.{Info}
use Rattle.package_attrs.specs.AttributeTypes.{content_type, message_digest, signing_time, firmware_package_id}
use Rattle.package_attrs.specs.AttributeTypes.{target_hardware_ids, community_identifiers, firmware_package_info}
use Rattle.package_attrs.specs.Attributes.{HaveOwnTypes, Has, Lacks, HasOne, HasAtMostOne, HasInfo}
use Rattle.package_attrs.specs.Attributes.{Describes}
use Rattle.package_attrs.specs.Description.{Description}
use Rattle.package_attrs.specs.Information.{info_text, IsInfo}
use Rattle.package_attrs.specs.PackageReading.{values_of, needed, at_most_one, one_oid_of, digest_of, one_time_of}
use Rattle.package_attrs.specs.PackageReading.{content_in, digest_in, identifier_in, targets_in, communities_in}
use Rattle.package_attrs.specs.PackageReading.{info_in, time_in, package_of}
use Rattle.package_attrs.specs.Reading.{octet_string_of}
use Rattle.package_attrs.proofs.IdentifierLaws.{identifier-whole}
use Rattle.package_attrs.proofs.ListLaws.{oid-front, targets-whole, communities-whole, info-whole}
use Rattle.package_attrs.proofs.ReadingLemmas.{octet_string-whole}

-- ---- what is found is there, and what is there is found

pub here : (kind : List ℕ) (a : Attribute) (others : List Attribute) → pointwise nat_eq a.kind kind ≡ true
    → values_of kind (a ∷ others) ≡ Some a.values
unfolding values_of
here kind a others is = rw is refl

pub further : (kind : List ℕ) (a : Attribute) (others : List Attribute) → pointwise nat_eq a.kind kind ≡ false
    → values_of kind (a ∷ others) ≡ values_of kind others
unfolding values_of
further kind a others isnt = rw isnt refl

pub nowhere : (kind : List ℕ) → values_of kind [] ≡ None
unfolding values_of
nowhere kind = refl

same_attribute : (a : Attribute) (kind values : List ℕ) → a.kind ≡ kind → a.values ≡ values
    → a ≡ record { kind = kind; values = values }
same_attribute a kind values same_kind same_values =
    subst (λ (k : List ℕ). a ≡ record { kind = k; values = values }) same_kind
    (subst (λ (v : List ℕ). a ≡ record { kind = a.kind; values = v }) same_values refl)

pub found_has : (kind : List ℕ) (attrs : List Attribute) (values : List ℕ) → values_of kind attrs ≡ Some values
    → Has kind attrs values
found_has kind [] values e = absurd (none-some values (sym (nowhere kind) ∙ e))
found_has kind (a ∷ others) values e = elim (cases_Bool (pointwise nat_eq a.kind kind)) [
  | inl is ↦ (
    0,
    omega arith,
    same_attribute a kind values (same_text a.kind kind (sym is))
        (some_is a.values values (sym (here kind a others is) ∙ e)),
  )
  | inr isnt ↦
      let rest = found_has kind others values (sym (further kind a others isnt) ∙ e) in
      (suc rest.0, omega (arith, rest.1), rest.2)
]

at_place : (P : List ℕ → Type 0) (attrs : List Attribute) (k : ℕ) (d : Attribute)
    → AllByRecursion P (map (λ (a : Attribute). a.kind) attrs) → k < length attrs → P (slice_index_or attrs k d).kind
at_place P [] k d all lt = absurd (omega (arith, lt))
at_place P (a ∷ others) zero d all lt = all.0
at_place P (a ∷ others) (suc k) d all lt = at_place P others k d all.1 (omega (arith, lt))

test_self : (kind : List ℕ) → pointwise nat_eq kind kind ≡ true
test_self kind = elim (cases_Bool (pointwise nat_eq kind kind)) [
  | inl is ↦ is
  | inr isnt ↦ absurd (other_text kind kind (sym isnt) refl)
]

-- the two tests that octets are the same
pub apart : (a b : List ℕ) → bytes_eq a b ≡ false → pointwise nat_eq a b ≡ false
apart a b e = elim (cases_Bool (pointwise nat_eq a b)) [
  | inl is ↦ absurd (false≢true (sym e ∙ (bytes_eq-Decides a b).1 (same_text a b (sym is))))
  | inr isnt ↦ isnt
]

pub apart_too : (a b : List ℕ) → pointwise nat_eq a b ≡ false → bytes_eq a b ≡ false
apart_too a b e = elim (cases_Bool (bytes_eq a b)) [
  | inl is ↦ absurd (other_text a b (sym e) ((bytes_eq-Decides a b).0 is))
  | inr isnt ↦ isnt
]

pub has_found : (kind : List ℕ) (attrs : List Attribute) (values : List ℕ) → HaveOwnTypes attrs
    → Has kind attrs values → values_of kind attrs ≡ Some values
has_found kind [] values own (k, lt, is) = absurd (omega (arith, lt))
has_found kind (a ∷ others) values own (zero, lt, is) =
    rw is (here kind (record { kind = kind; values = values }) others (test_self kind))
has_found kind (a ∷ others) values own (suc k, lt, is) =
    let other =
    at_place (λ (y : List ℕ). bytes_eq a.kind y ≡ false) others k (record { kind = kind; values = values })
    (IsDistinct-head _ _ _ own) (omega (arith, lt)) in
    let isnt : pointwise nat_eq a.kind kind ≡ false =
    apart a.kind kind (subst (λ (b : Attribute). bytes_eq a.kind b.kind ≡ false) is other) in
    further kind a others isnt ∙ has_found kind others values (IsDistinct-tail _ _ _ own) (k, omega (arith, lt), is)

pub missing_lacks : (kind : List ℕ) (attrs : List Attribute) → HaveOwnTypes attrs → values_of kind attrs ≡ None
    → Lacks kind attrs
missing_lacks kind attrs own e values has = none-some values (sym e ∙ has_found kind attrs values own has)

pub lacks_missing : (kind : List ℕ) (attrs : List Attribute) → Lacks kind attrs → values_of kind attrs ≡ None
lacks_missing kind attrs lacks = by_case (values_of kind attrs) refl
  where
    by_case : (r : Option (List ℕ)) → values_of kind attrs ≡ r → r ≡ None
    by_case None is = refl
    by_case (Some values) is = absurd (lacks values (found_has kind attrs values is))

-- ---- an attribute with one value

-- a value whose text was found
pub sound_text : {V : Type 0} (text : V → List ℕ) (IsValid : V → Type 0) (kind : List ℕ) (attrs : List Attribute)
    (values : List ℕ) (v : V) → values_of kind attrs ≡ Some values → IsValid v × (values ≡ text v)
    → HasOne text IsValid kind attrs v
sound_text text IsValid kind attrs values v found is =
    (is.0, subst (λ (x : List ℕ). Has kind attrs x) is.1 (found_has kind attrs values found))

-- a value that was read from what was found
pub sound_one : {V : Type 0} (text : V → List ℕ) (IsValid : V → Type 0) (kind : List ℕ) (attrs : List Attribute)
    (values : List ℕ) (result : Option V) → values_of kind attrs ≡ Some values → Reads text IsValid values result
    → IfSome result (λ v. HasOne text IsValid kind attrs v)
sound_one text IsValid kind attrs values None found reads = tt
sound_one text IsValid kind attrs values (Some v) found reads =
    sound_text text IsValid kind attrs values v found ((reads v).0 refl)

-- the same of what is seen as such a value
pub sound_view : {R V : Type 0} (text : V → List ℕ) (IsValid : V → Type 0) (view : R → V) (kind : List ℕ)
    (attrs : List Attribute) (values : List ℕ) (result : Option R) → values_of kind attrs ≡ Some values
    → Reads text IsValid values (option_map view result)
    → IfSome result (λ r. HasOne text IsValid kind attrs (view r))
sound_view text IsValid view kind attrs values None found reads = tt
sound_view text IsValid view kind attrs values (Some r) found reads =
    sound_one text IsValid kind attrs values (Some (view r)) found reads

needed_again : {V : Type 0} {text : V → List ℕ} {IsValid : V → Type 0} {read : Whole V} (kind : List ℕ)
    (attrs : List Attribute) (v : V) → IsWhole text IsValid read → HaveOwnTypes attrs
    → HasOne text IsValid kind attrs v → needed kind read attrs ≡ Some v
needed_again {V} {text} {IsValid} {read} kind attrs v laws own h =
    rw (has_found kind attrs (text v) own h.1) (laws.again v h.0)

at_most_one_again : {V : Type 0} {text : V → List ℕ} {IsValid : V → Type 0} {read : Whole V} (kind : List ℕ)
    (attrs : List Attribute) (o : Option V) → IsWhole text IsValid read → HaveOwnTypes attrs
    → HasAtMostOne text IsValid kind attrs o → at_most_one kind read attrs ≡ Some o
at_most_one_again kind attrs None laws own h = rw (lacks_missing kind attrs h) refl
at_most_one_again {V} {text} kind attrs (Some v) laws own h =
    rw (has_found kind attrs (text v) own h.1, laws.again v h.0) refl

-- what is read of it is what is said
pub told : {V : Type 0} {text : V → List ℕ} {IsValid : V → Type 0} {read : Whole V} (kind : List ℕ)
    (attrs : List Attribute) (result : Option V) → IsWhole text IsValid read → HaveOwnTypes attrs
    → Answers (λ v. v) result (needed kind read attrs) → IfSome result (λ v. HasOne text IsValid kind attrs v)
    → (v : V) → (result ≡ Some v) ↔ HasOne text IsValid kind attrs v
told kind attrs None laws own exact sound v =
    (λ e. absurd (none-some v e), λ h. sym exact ∙ needed_again kind attrs v laws own h)
told {V} {text} {IsValid} kind attrs (Some x) laws own exact sound v = (
  λ e. subst (λ (w : V). HasOne text IsValid kind attrs w) (some_is x v e) sound,
  λ h. sym exact ∙ needed_again kind attrs v laws own h,
)

-- ---- the forms of values

pub one_oid-whole : IsWhole (enc 0x06) IsOid one_oid_of
unfolding one_oid_of
one_oid-whole = alone-whole oid-front

abbrev IsDigest : List ℕ → Type 0
IsDigest digest = length digest ≡ 32

pub digest-whole : IsWhole (enc 0x04) IsDigest digest_of
unfolding digest_of
digest-whole = record {
  takes = λ bytes digest octets e.
      let t = sized.takes bytes digest octets e in
      (eqb-true _ _ t.0.1, t.1);
  again = λ digest h. sized.again digest ((tt, omega (arith, h)), eq-eqb (length digest) 32 h);
}
  where
    sized : IsWhole (enc 0x04) (λ digest. (Unit {0} × (length digest < 2 ^ 32)) × IsTrue (eqb (length digest) 32))
        (tested (λ digest. eqb (length digest) 32) octet_string_of)
    sized = tested-whole (λ digest. eqb (length digest) 32) octet_string-whole

pub one_time-whole : IsWhole time_text IsTime one_time_of
unfolding one_time_of
one_time-whole = alone-whole time-front

-- ---- the package

pub info_sound : (attrs : List Attribute) (values : List ℕ) (result : Option Info)
    → values_of firmware_package_info attrs ≡ Some values → Reads info_text IsInfo values result
    → IfSome result (λ info. HasInfo attrs info)
info_sound attrs values None found reads = tt
info_sound attrs values (Some info) found reads =
    inl (sound_one info_text IsInfo firmware_package_info attrs values (Some info) found reads)

info_again : (attrs : List Attribute) (info : Info) → HaveOwnTypes attrs → HasInfo attrs info
    → info_in attrs ≡ Some info
unfolding info_in
info_again attrs info own (inl h) = rw (at_most_one_again firmware_package_info attrs (Some info) info-whole own h) refl
info_again attrs info own (inr h) = rw (at_most_one_again firmware_package_info attrs None info-whole own h.0, h.1) refl

pub package_again : (attrs : List Attribute) (d : Description) → HaveOwnTypes attrs → Describes attrs d
    → package_of attrs ≡ Some d
unfolding package_of content_in digest_in identifier_in time_in targets_in communities_in
package_again attrs d own h =
    rw (
      needed_again content_type attrs d.content one_oid-whole own h.content,
      needed_again message_digest attrs d.digest digest-whole own h.digest,
      needed_again firmware_package_id attrs d.identifier identifier-whole own h.identifier,
      at_most_one_again signing_time attrs h.time.0 one_time-whole own h.time.1,
      needed_again target_hardware_ids attrs d.targets targets-whole own h.targets,
      at_most_one_again community_identifiers attrs d.communities communities-whole own h.communities,
      info_again attrs d.info own h.info,
    ) refl

-- ---- what is read is what is described

pub described : {R : Type 0} (view : R → Description) (attrs : List Attribute) (result : Option R)
    → HaveOwnTypes attrs → Answers view result (package_of attrs) → IfSome result (λ p. Describes attrs (view p))
    → (d : Description) → (option_map view result ≡ Some d) ↔ Describes attrs d
described view attrs None own exact sound d =
    (λ e. absurd (none-some d e), λ h. sym exact ∙ package_again attrs d own h)
described view attrs (Some p) own exact sound d = (
  λ e. subst (λ (x : Description). Describes attrs x) (some_is (view p) d e) sound,
  λ h. sym exact ∙ package_again attrs d own h,
)

pub one_description : (attrs : List Attribute) (d e : Description) → HaveOwnTypes attrs → Describes attrs d
    → Describes attrs e → d ≡ e
one_description attrs d e own h k = some_is d e (sym (package_again attrs d own h) ∙ package_again attrs e own k)
