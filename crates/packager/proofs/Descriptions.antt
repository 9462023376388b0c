-- The signed attributes of a plan are a set that describes a package.
use Rattle.std.proofs.Common.{◌≡◌, ℕ, zero, suc, ◌+◌, ◌*◌, ◌<◌, ◌≤◌, ◌^◌, inl, inr, true, false, is_some, List, [], ◌∷◌, ◌++◌, map, length, Option, Some, None, Contains, refl, sym, ◌∙◌, arith, lit<}
use Rattle.std.specs.Prelude.{bytes_eq}
use Rattle.std.specs.List.{AllByRecursion, IsDistinct, concat}
use Rattle.std.proofs.lemmas.Bool.{true≢false}
use Rattle.std.proofs.lemmas.Cmp.{nat_list_eq_equiv}
use Rattle.std.proofs.lemmas.List.{length-append, append-nil}
use Rattle.std.proofs.lemmas.List.Elements.{All-from_recursion, recursion_from_All, All-contains, Contains-append_right}
use Rattle.std.proofs.lemmas.List.Sorted.{IsPermutation-sym, IsPermutation-map, All-permutation, Contains-permutation}
use Rattle.std.proofs.lemmas.Map.Keys.{IsDistinct-IsPermutation}
use Rattle.sha2.specs.Sha256.{sha256}
use Rattle.sha2.proofs.Facts256.{length-sha256}
use Rattle.der_core.specs.Attribute.{Attribute, IsAttribute, attribute_contents, attribute_text}
use Rattle.der_core.specs.Element.{enc, IsElement, AreOctets}
use Rattle.der_core.specs.Objects.{IsOid}
use Rattle.der_core.specs.Reading.{subidentifiers_of, subidentifiers_after, subidentifier_step}
use Rattle.der_core.specs.Shapes.{text_if}
use Rattle.der_core.proofs.Lengths.{length-enc-le}
use Rattle.der_core.proofs.Objects.{is_oid}
use Rattle.der_write.proofs.Contents.{contents_length}
use Rattle.attribute_set.specs.AttributeSet.{IsAttributeSet, set_contents}
use Rattle.cms_signed.specs.Cut.{firmware_package, signed_data}
use Rattle.package_attrs.specs.declared.community.Community.{Community}
use Rattle.package_attrs.specs.declared.name.PackageName.{PackageName}
use Rattle.package_attrs.specs.declared.package.Info.{Info}
use Rattle.package_attrs.specs.Attributes.{Has, Lacks, HasCommunities, HasInfo, Describes}
use Rattle.package_attrs.specs.AttributeTypes.{content_type, message_digest, signing_time, firmware_package_id}
use Rattle.package_attrs.specs.AttributeTypes.{target_hardware_ids, community_identifiers, firmware_package_info}
use Rattle.package_attrs.specs.Communities.{communities_text, communities_contents}
use Rattle.package_attrs.specs.Description.{Description}
use Rattle.package_attrs.specs.Identifier.{identifier_text, name_text, stale_text}
use Rattle.package_attrs.specs.Information.{info_text, kind_text, dependencies_text, IsInfo}
use Rattle.package_attrs.specs.Targets.{targets_text, targets_contents}
use Rattle.package_attrs.proofs.IdentifierLaws.{name_length}
use Rattle.attribute_write.specs.declared.communities.NamedCommunity.{NamedCommunity}
use Rattle.attribute_write.specs.Communities.{community_of}
use Rattle.packager.specs.PackagePlan.{PlannedPackage, IsPackagePlan, HasTexts, IsNamed}
use Rattle.packager.specs.PlannedMessage.{planned_content, planned_description, planned_attributes, described_attributes}
use Rattle.packager.specs.PlannedMessage.{one_value, value_if, named_communities, named_info}
use Rattle.signed_write.specs.Orders.{in_order}
use Rattle.signed_write.proofs.Orders.{in_order_same, in_order_sorted, in_order_contents}
use Rattle.packager.proofs.TextSizes.{stale_size, targets_size, are_communities, communities_size, kind_size, dependencies_size}

-- ---- identifiers

pub are_octets : (octets : List ℕ) → AllByRecursion (λ octet. octet < 256) octets → AreOctets octets
are_octets [] all i = omega arith
are_octets (octet ∷ octets) all zero = all.0
are_octets (octet ∷ octets) all (suc i) = are_octets octets all.1 i

-- an identifier of nine octets, and one of eleven
nine : (a b c d e f g h i : ℕ) → AllByRecursion (λ octet. octet < 256) (a ∷ b ∷ c ∷ d ∷ e ∷ f ∷ g ∷ h ∷ i ∷ [])
    → is_some (subidentifiers_of (a ∷ b ∷ c ∷ d ∷ e ∷ f ∷ g ∷ h ∷ i ∷ [])) ≡ true
    → IsOid (a ∷ b ∷ c ∷ d ∷ e ∷ f ∷ g ∷ h ∷ i ∷ [])
nine a b c d e f g h i all reads =
    is_oid (a ∷ b ∷ c ∷ d ∷ e ∷ f ∷ g ∷ h ∷ i ∷ []) (are_octets (a ∷ b ∷ c ∷ d ∷ e ∷ f ∷ g ∷ h ∷ i ∷ []) all) (omega arith) (omega arith) reads

eleven : (a b c d e f g h i j k : ℕ)
    → AllByRecursion (λ octet. octet < 256) (a ∷ b ∷ c ∷ d ∷ e ∷ f ∷ g ∷ h ∷ i ∷ j ∷ k ∷ [])
    → is_some (subidentifiers_of (a ∷ b ∷ c ∷ d ∷ e ∷ f ∷ g ∷ h ∷ i ∷ j ∷ k ∷ [])) ≡ true
    → IsOid (a ∷ b ∷ c ∷ d ∷ e ∷ f ∷ g ∷ h ∷ i ∷ j ∷ k ∷ [])
eleven a b c d e f g h i j k all reads =
    is_oid (a ∷ b ∷ c ∷ d ∷ e ∷ f ∷ g ∷ h ∷ i ∷ j ∷ k ∷ [])
    (are_octets (a ∷ b ∷ c ∷ d ∷ e ∷ f ∷ g ∷ h ∷ i ∷ j ∷ k ∷ []) all) (omega arith) (omega arith) reads

-- 1.2.840.113549.1.9 and one more, and 1.2.840.113549.1.9.16.x.y
pkcs_9_is : (last : ℕ) → last < 256 → is_some (subidentifiers_of (0x2A ∷ 0x86 ∷ 0x48 ∷ 0x86 ∷ 0xF7 ∷ 0x0D ∷ 0x01 ∷ 0x09 ∷ last ∷ [])) ≡ true
    → IsOid (0x2A ∷ 0x86 ∷ 0x48 ∷ 0x86 ∷ 0xF7 ∷ 0x0D ∷ 0x01 ∷ 0x09 ∷ last ∷ [])
pkcs_9_is last small reads =
    nine 0x2A 0x86 0x48 0x86 0xF7 0x0D 0x01 0x09 last
    (lit< tt, (lit< tt, (lit< tt, (lit< tt, (lit< tt, (lit< tt, (lit< tt, (lit< tt, (small, tt)))))))))
    reads

smime_is : (arc last : ℕ) → arc < 256 → last < 256
    → is_some (subidentifiers_of (0x2A ∷ 0x86 ∷ 0x48 ∷ 0x86 ∷ 0xF7 ∷ 0x0D ∷ 0x01 ∷ 0x09 ∷ 0x10 ∷ arc ∷ last ∷ [])) ≡ true
    → IsOid (0x2A ∷ 0x86 ∷ 0x48 ∷ 0x86 ∷ 0xF7 ∷ 0x0D ∷ 0x01 ∷ 0x09 ∷ 0x10 ∷ arc ∷ last ∷ [])
smime_is arc last small little reads =
    eleven 0x2A 0x86 0x48 0x86 0xF7 0x0D 0x01 0x09 0x10 arc last
    (lit< tt, (lit< tt, (lit< tt, (lit< tt, (lit< tt, (lit< tt, (lit< tt, (lit< tt, (lit< tt, (small, (little, tt)))))))))))
    reads

pub signed_data_is : IsOid signed_data
unfolding subidentifiers_after subidentifier_step
signed_data_is =
    nine 0x2A 0x86 0x48 0x86 0xF7 0x0D 0x01 0x07 0x02
    (lit< tt, (lit< tt, (lit< tt, (lit< tt, (lit< tt, (lit< tt, (lit< tt, (lit< tt, (lit< tt, tt)))))))))
    refl

pub firmware_package_is : IsOid firmware_package
unfolding subidentifiers_after subidentifier_step
firmware_package_is = smime_is 1 16 (lit< tt) (lit< tt) refl

content_type_is : IsOid content_type
unfolding subidentifiers_after subidentifier_step
content_type_is = pkcs_9_is 3 (lit< tt) refl

message_digest_is : IsOid message_digest
unfolding subidentifiers_after subidentifier_step
message_digest_is = pkcs_9_is 4 (lit< tt) refl

firmware_package_id_is : IsOid firmware_package_id
unfolding subidentifiers_after subidentifier_step
firmware_package_id_is = smime_is 2 35 (lit< tt) (lit< tt) refl

target_hardware_ids_is : IsOid target_hardware_ids
unfolding subidentifiers_after subidentifier_step
target_hardware_ids_is = smime_is 2 36 (lit< tt) (lit< tt) refl

community_identifiers_is : IsOid community_identifiers
unfolding subidentifiers_after subidentifier_step
community_identifiers_is = smime_is 2 40 (lit< tt) (lit< tt) refl

firmware_package_info_is : IsOid firmware_package_info
unfolding subidentifiers_after subidentifier_step
firmware_package_info_is = smime_is 2 42 (lit< tt) (lit< tt) refl

-- ---- one attribute

-- an attribute that isn't long
record IsShort (a : Attribute) : Type 0 where
  is : IsAttribute a
  most : length (attribute_text a) ≤ 2 ^ 21

-- an attribute whose one value is an element that isn't long
attribute_is : (kind : List ℕ) (tag : ℕ) (contents : List ℕ) → IsOid kind → IsElement tag contents
    → length contents ≤ 2 ^ 20 → IsShort (one_value kind (enc tag contents))
attribute_is kind tag contents id element few =
    let value = length-enc-le tag contents element.fits in
    let values = length-enc-le 0x31 (enc tag contents) (omega (arith, value, few)) in
    let size : length (attribute_contents (one_value kind (enc tag contents))) ≤ 2 ^ 20 + 100 =
    omega (
      arith,
      length-append (enc 0x06 kind) (enc 0x31 (enc tag contents)),
      id.most,
      length-enc-le 0x06 kind (omega (arith, id.most)),
      value,
      values,
      few,
    ) in
    record {
      is = record {
        kind = id;
        values = (enc tag contents ∷ [], ((tag, contents, element, refl), tt), sym (append-nil (enc tag contents)));
        fits = omega (arith, size);
      };
      most = omega (
        arith,
        size,
        length-enc-le 0x30 (attribute_contents (one_value kind (enc tag contents))) (omega (arith, size)),
      );
    }

-- the contents of each value
identifier_fits : (p : PlannedPackage) → HasTexts p
    → length (name_text p.identifier.name ++ text_if stale_text p.identifier.stale) ≤ 200
identifier_fits p texts =
    omega (
      arith,
      length-append (name_text p.identifier.name) (text_if stale_text p.identifier.stale),
      name_length p.identifier.name texts.identifier.name,
      stale_size p.identifier.stale texts.identifier.stale,
    )

info_fits : (kind : Option ℕ) (names : List PackageName) → IsInfo (record { kind = kind; dependencies = names })
    → length (text_if kind_text kind ++ dependencies_text names) ≤ 900
info_fits kind names valid =
    omega (
      arith,
      length-append (text_if kind_text kind) (dependencies_text names),
      kind_size kind valid.kind,
      dependencies_size names valid.dependencies valid.count,
    )

pub info_is : (p : PlannedPackage) → IsPackagePlan p → HasTexts p
    → IsInfo (record { kind = p.kind; dependencies = p.dependencies })
info_is p plan texts = record { kind = texts.kind; dependencies = texts.dependencies; count = plan.dependencies }

-- ---- all of them

abbrev Front : Description → List Attribute
Front d =
    one_value content_type (enc 0x06 d.content)
    ∷ one_value message_digest (enc 0x04 d.digest)
    ∷ one_value firmware_package_id (identifier_text d.identifier)
    ∷ one_value target_hardware_ids (targets_text d.targets)
    ∷ []

abbrev kinds_of : List Attribute → List (List ℕ)
kinds_of attributes = map (λ attribute. attribute.kind) attributes

-- an attribute that is there or isn't
communities_attribute : (cs : List NamedCommunity) → AllByRecursion IsNamed cs → length cs ≤ 64
    → AllByRecursion IsShort (value_if community_identifiers communities_text (named_communities (map community_of cs)))
communities_attribute [] all few = tt
communities_attribute (c ∷ cs) all few =
    let size = communities_size (c ∷ cs) all in
    let contents = communities_contents (map community_of (c ∷ cs)) in (
      attribute_is community_identifiers 0x30 contents community_identifiers_is
          (record { octet = omega arith; low_bits = omega arith; fits = omega (arith, size, few) }) (omega (arith, size, few)),
      tt,
    )

info_attribute : (kind : Option ℕ) (names : List PackageName) → IsInfo (record { kind = kind; dependencies = names })
    → IsShort (one_value firmware_package_info (info_text (record { kind = kind; dependencies = names })))
info_attribute kind names valid =
    let size = info_fits kind names valid in
    attribute_is firmware_package_info 0x30 (text_if kind_text kind ++ dependencies_text names) firmware_package_info_is
    (record { octet = omega arith; low_bits = omega arith; fits = omega (arith, size) })
    (omega (arith, size))

info_attributes : (kind : Option ℕ) (names : List PackageName) → IsInfo (record { kind = kind; dependencies = names })
    → AllByRecursion IsShort (value_if firmware_package_info info_text (named_info kind names))
info_attributes None [] valid = tt
info_attributes None (name ∷ names) valid = (info_attribute None (name ∷ names) valid, tt)
info_attributes (Some kind) names valid = (info_attribute (Some kind) names valid, tt)

both : {X : Type 0} (P : X → Type 0) (xs ys : List X) → AllByRecursion P xs → AllByRecursion P ys
    → AllByRecursion P (xs ++ ys)
both P [] ys all more = more
both P (x ∷ xs) ys all more = (all.0, both P xs ys all.1 more)

each_attribute : (p : PlannedPackage) → IsPackagePlan p → HasTexts p
    → AllByRecursion IsShort (described_attributes (planned_description p))
each_attribute p plan texts =
    let identifier = identifier_fits p texts in
    let targets = targets_size p.targets texts.targets in
    let digest = length-sha256 (planned_content p) in (
      attribute_is content_type 0x06 firmware_package content_type_is
          (record { octet = omega arith; low_bits = omega arith; fits = omega arith }) (omega arith),
      (
        attribute_is message_digest 0x04 (sha256 (planned_content p)) message_digest_is
            (record { octet = omega arith; low_bits = omega arith; fits = omega (arith, digest) }) (omega (arith, digest)),
        (
          attribute_is firmware_package_id 0x30 (name_text p.identifier.name ++ text_if stale_text p.identifier.stale)
              firmware_package_id_is
              (record { octet = omega arith; low_bits = omega arith; fits = omega (arith, identifier) })
              (omega (arith, identifier)),
          (
            attribute_is target_hardware_ids 0x30 (targets_contents p.targets) target_hardware_ids_is
                (record { octet = omega arith; low_bits = omega arith; fits = omega (arith, targets, plan.targets) })
                (omega (arith, targets, plan.targets)),
            both IsShort (value_if community_identifiers communities_text (named_communities (map community_of p.communities)))
                (value_if firmware_package_info info_text (named_info p.kind p.dependencies))
                (communities_attribute p.communities texts.communities plan.communities)
                (info_attributes p.kind p.dependencies (info_is p plan texts)),
          ),
        ),
      ),
    )

own_types : (d : Description) (cs : Option (List Community)) (info : Option Info)
    → IsDistinct bytes_eq (kinds_of (Front d ++ (value_if community_identifiers communities_text cs
    ++ value_if firmware_package_info info_text info)))
unfolding IsDistinct
own_types d None None =
    ((refl, (refl, (refl, tt))), ((refl, (refl, tt)), ((refl, tt), (tt, tt))))
own_types d None (Some info) =
    ((refl, (refl, (refl, (refl, tt)))), ((refl, (refl, (refl, tt))), ((refl, (refl, tt)), ((refl, tt), (tt, tt)))))
own_types d (Some cs) None =
    ((refl, (refl, (refl, (refl, tt)))), ((refl, (refl, (refl, tt))), ((refl, (refl, tt)), ((refl, tt), (tt, tt)))))
own_types d (Some cs) (Some info) = (
  (refl, (refl, (refl, (refl, (refl, tt))))),
  (
    (refl, (refl, (refl, (refl, tt)))),
    ((refl, (refl, (refl, tt))), ((refl, (refl, tt)), ((refl, tt), (tt, tt)))),
  ),
)

are_attributes : (all : List Attribute) → AllByRecursion IsShort all → AllByRecursion IsAttribute all
are_attributes [] short = tt
are_attributes (a ∷ all) short = (short.0.is, are_attributes all short.1)

pub attribute_set : (p : PlannedPackage) → IsPackagePlan p → HasTexts p → IsAttributeSet (planned_attributes p)
attribute_set p plan texts =
    let all = described_attributes (planned_description p) in
    let same = in_order_same all in
    record {
      each = recursion_from_All IsAttribute (in_order all)
          (All-permutation IsAttribute all (in_order all) same (All-from_recursion IsAttribute all (are_attributes all (each_attribute p plan texts))));
      ascending = in_order_sorted all;
      distinct = IsDistinct-IsPermutation bytes_eq nat_list_eq_equiv.symm (kinds_of all) (kinds_of (in_order all))
          (IsPermutation-map (λ (a : Attribute). a.kind) all (in_order all) same)
          (own_types (planned_description p) (named_communities (map community_of p.communities)) (named_info p.kind p.dependencies));
    }

-- ---- how long they are

each_size : (all : List Attribute) → AllByRecursion IsShort all
    → length (concat (map attribute_text all)) ≤ 2 ^ 21 * length all
each_size [] short = omega arith
each_size (a ∷ all) short =
    omega (
      arith,
      short.0.most,
      each_size all short.1,
      length-append (attribute_text a) (concat (map attribute_text all)),
    )

count : (d : Description) (cs : Option (List Community)) (info : Option Info)
    → length (Front d ++ (value_if community_identifiers communities_text cs
    ++ value_if firmware_package_info info_text info)) ≤ 6
count d None None = omega arith
count d None (Some info) = omega arith
count d (Some cs) None = omega arith
count d (Some cs) (Some info) = omega arith

pub attributes_size : (p : PlannedPackage) → IsPackagePlan p → HasTexts p
    → length (set_contents (planned_attributes p)) ≤ 2 ^ 24
attributes_size p plan texts =
    let all = described_attributes (planned_description p) in
    omega (
      arith,
      contents_length (map attribute_text all) (set_contents (in_order all)) (in_order_contents all),
      each_size all (each_attribute p plan texts),
      count (planned_description p) (named_communities (map community_of p.communities))
          (named_info p.kind p.dependencies),
    )

-- ---- what they say

-- what is there in any order is there in order
there : (all : List Attribute) (kind values : List ℕ) → Has kind all values → Has kind (in_order all) values
there all kind values has =
    Contains-permutation all (in_order all) (record { kind = kind; values = values }) (in_order_same all) has

-- and no more
nowhere : (all : List Attribute) (kind : List ℕ) → AllByRecursion (λ a. bytes_eq a.kind kind ≡ false) all
    → bytes_eq kind kind ≡ true → Lacks kind (in_order all)
nowhere all kind others same values has =
    true≢false (sym same ∙ All-contains (λ (a : Attribute). bytes_eq a.kind kind ≡ false) all (record { kind = kind; values = values })
    (All-from_recursion (λ (a : Attribute). bytes_eq a.kind kind ≡ false) all others)
    (Contains-permutation (in_order all) all (record { kind = kind; values = values })
    (IsPermutation-sym all (in_order all) (in_order_same all)) has))

abbrev all_of : Description → Option (List Community) → Option Info → List Attribute
all_of d cs info =
    Front d ++ (value_if community_identifiers communities_text cs ++ value_if firmware_package_info info_text info)

-- no attribute is of this type, but those of these
without_communities : (d : Description) (info : Option Info)
    → AllByRecursion (λ a. bytes_eq a.kind community_identifiers ≡ false) (all_of d None info)
without_communities d None = (refl, (refl, (refl, (refl, tt))))
without_communities d (Some info) = (refl, (refl, (refl, (refl, (refl, tt)))))

without_info : (d : Description) (cs : Option (List Community))
    → AllByRecursion (λ a. bytes_eq a.kind firmware_package_info ≡ false) (all_of d cs None)
without_info d None = (refl, (refl, (refl, (refl, tt))))
without_info d (Some cs) = (refl, (refl, (refl, (refl, (refl, tt)))))

without_time : (d : Description) (cs : Option (List Community)) (info : Option Info)
    → AllByRecursion (λ a. bytes_eq a.kind signing_time ≡ false) (all_of d cs info)
without_time d None None = (refl, (refl, (refl, (refl, tt))))
without_time d None (Some info) = (refl, (refl, (refl, (refl, (refl, tt)))))
without_time d (Some cs) None = (refl, (refl, (refl, (refl, (refl, tt)))))
without_time d (Some cs) (Some info) = (refl, (refl, (refl, (refl, (refl, (refl, tt))))))

last_one : (xs : List Attribute) (x : Attribute) → Contains (xs ++ x ∷ []) x
last_one xs x = Contains-append_right xs (x ∷ []) x (0, omega arith, refl)

communities_said : (d : Description) (cs : List NamedCommunity) (info : Option Info) → AllByRecursion IsNamed cs → length cs ≤ 64
    → HasCommunities (in_order (all_of d (named_communities (map community_of cs)) info)) (named_communities (map community_of cs))
communities_said d [] info all few = nowhere (all_of d None info) community_identifiers (without_communities d info) refl
communities_said d (c ∷ cs) info all few =
    let names = map community_of (c ∷ cs) in
    let one = one_value community_identifiers (communities_text names) in
    let size = communities_size (c ∷ cs) all in (
      record { each = are_communities (c ∷ cs) all; fits = omega (arith, size, few) },
      there (all_of d (Some names) info) community_identifiers (communities_text names)
          (Contains-append_right (Front d) (one ∷ value_if firmware_package_info info_text info) one (0, omega arith, refl)),
    )

info_there : (d : Description) (cs : Option (List Community)) (info : Info)
    → Has firmware_package_info (in_order (all_of d cs (Some info))) (info_text info)
info_there d cs info =
    let one = one_value firmware_package_info (info_text info) in
    let front = value_if community_identifiers communities_text cs in
    there (all_of d cs (Some info)) firmware_package_info (info_text info)
    (Contains-append_right (Front d) (front ++ one ∷ []) one (last_one front one))

info_said : (d : Description) (cs : Option (List Community)) (kind : Option ℕ) (names : List PackageName)
    → IsInfo (record { kind = kind; dependencies = names })
    → HasInfo (in_order (all_of d cs (named_info kind names))) (record { kind = kind; dependencies = names })
info_said d cs None [] valid = inr (nowhere (all_of d cs None) firmware_package_info (without_info d cs) refl, refl)
info_said d cs None (name ∷ names) valid = inl (valid, info_there d cs (record { kind = None; dependencies = name ∷ names }))
info_said d cs (Some kind) names valid = inl (valid, info_there d cs (record { kind = Some kind; dependencies = names }))

pub describes : (p : PlannedPackage) → IsPackagePlan p → HasTexts p → Describes (planned_attributes p) (planned_description p)
describes p plan texts =
    let d = planned_description p in
    let cs = named_communities (map community_of p.communities) in
    let info = named_info p.kind p.dependencies in
    let all = all_of d cs info in
    record {
      content = (firmware_package_is, there all content_type (enc 0x06 firmware_package) (0, omega arith, refl));
      digest = (length-sha256 (planned_content p), there all message_digest (enc 0x04 d.digest) (1, omega arith, refl));
      time = (None, nowhere all signing_time (without_time d cs info) refl);
      identifier = (texts.identifier, there all firmware_package_id (identifier_text p.identifier) (2, omega arith, refl));
      targets = (
        record { each = texts.targets; fits = omega (arith, targets_size p.targets texts.targets, plan.targets) },
        there all target_hardware_ids (targets_text p.targets) (3, omega arith, refl),
      );
      communities = communities_said d p.communities info texts.communities plan.communities;
      info = info_said d cs p.kind p.dependencies (info_is p plan texts);
    }
