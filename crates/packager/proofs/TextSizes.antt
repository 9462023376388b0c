-- How long the values of a plan's attributes are.
use Rattle.std.proofs.Common.{ℕ, ◌*◌, ◌<◌, ◌≤◌, ◌^◌, List, [], ◌∷◌, ◌++◌, map, length, Option, Some, None, IfSome, arith}
use Rattle.std.specs.List.{AllByRecursion, flat_map}
use Rattle.std.proofs.lemmas.List.{length-append}
use Rattle.der_core.specs.Element.{enc}
use Rattle.der_core.specs.Number.{number_contents}
use Rattle.der_core.specs.Objects.{IsOid}
use Rattle.der_core.specs.Shapes.{text_if}
use Rattle.der_core.proofs.Lengths.{length-enc-le, length-number-le}
use Rattle.package_attrs.specs.declared.community.SerialEntry.{SerialEntry}
use Rattle.package_attrs.specs.declared.community.SerialEntry.TheVariants as entries
use Rattle.package_attrs.specs.declared.name.PackageName.{PackageName}
use Rattle.package_attrs.specs.declared.name.Stale.{Stale}
use Rattle.package_attrs.specs.declared.name.Stale.TheVariants as stales
use Rattle.package_attrs.specs.Communities.{serial_entry_text, IsSerialEntry, community_text, communities_contents, IsCommunity}
use Rattle.package_attrs.specs.Communities.{modules_contents}
use Rattle.package_attrs.specs.Identifier.{name_text, IsName, stale_text, IsStale}
use Rattle.package_attrs.specs.Information.{kind_text, dependencies_text}
use Rattle.package_attrs.specs.Targets.{targets_contents}
use Rattle.package_attrs.proofs.IdentifierLaws.{name_length}
use Rattle.attribute_write.specs.declared.communities.NamedCommunity.{NamedCommunity}
use Rattle.attribute_write.specs.declared.communities.NamedCommunity.TheVariants as named
use Rattle.attribute_write.specs.Communities.{community_of}
use Rattle.packager.specs.PackagePlan.{IsNamed}

pub oid_size : (id : List ℕ) → IsOid id → length (enc 0x06 id) ≤ 70
oid_size id valid = omega (arith, valid.most, length-enc-le 0x06 id (omega (arith, valid.most)))

pub number_size : (n : ℕ) → n < 2 ^ 128 → length (enc 0x02 (number_contents n)) ≤ 23
number_size n small =
    let size = length-number-le n small in omega (arith, size, length-enc-le 0x02 (number_contents n) (omega (arith, size)))

pub stale_size : (stale : Option Stale) → IfSome stale IsStale → length (text_if stale_text stale) ≤ 70
stale_size None valid = omega arith
stale_size (Some (stales.Upto n)) valid = omega (arith, number_size n valid)
stale_size (Some (stales.Legacy octets)) valid =
    omega (arith, valid.1, length-enc-le 0x04 octets (omega (arith, valid.1)))

pub targets_size : (targets : List (List ℕ)) → AllByRecursion IsOid targets
    → length (targets_contents targets) ≤ 70 * length targets
targets_size [] all = omega arith
targets_size (t ∷ targets) all =
    omega (arith, length-append (enc 0x06 t) (targets_contents targets), oid_size t all.0, targets_size targets all.1)

entry_size : (entry : SerialEntry) → IsSerialEntry entry → length (serial_entry_text entry) ≤ 146
entry_size entries.All valid = omega (arith, length-enc-le 0x05 [] (omega arith))
entry_size (entries.Single serial) valid =
    omega (arith, valid.1, length-enc-le 0x04 serial (omega (arith, valid.1)))
entry_size (entries.Block low high) valid =
    let first = length-enc-le 0x04 low (omega (arith, valid.0.1)) in
    let second = length-enc-le 0x04 high (omega (arith, valid.1.1)) in
    let both = length-append (enc 0x04 low) (enc 0x04 high) in
    omega (
      arith,
      valid.0.1,
      valid.1.1,
      first,
      second,
      both,
      length-enc-le 0x30 (enc 0x04 low ++ enc 0x04 high) (omega (arith, valid.0.1, valid.1.1, first, second, both)),
    )

-- what a hardware type and one serial entry are in
modules_size : (hw_type : List ℕ) (entry : SerialEntry) → IsOid hw_type → IsSerialEntry entry
    → length (modules_contents hw_type (entry ∷ [])) ≤ 222
modules_size hw_type entry id valid =
    let one = length-append (serial_entry_text entry) [] in
    let size = entry_size entry valid in
    omega (
      arith,
      oid_size hw_type id,
      one,
      size,
      length-append (enc 0x06 hw_type) (enc 0x30 (serial_entry_text entry ++ [])),
      length-enc-le 0x30 (serial_entry_text entry ++ []) (omega (arith, one, size)),
    )

community_size : (c : NamedCommunity) → IsNamed c → length (community_text (community_of c)) ≤ 228
community_size (named.Group id) valid = omega (arith, oid_size id valid)
community_size (named.Modules hw_type serial) valid =
    let size = modules_size hw_type serial valid.0 valid.1 in
    omega (arith, size, length-enc-le 0x30 (modules_contents hw_type (serial ∷ [])) (omega (arith, size)))

is_community : (c : NamedCommunity) → IsNamed c → IsCommunity (community_of c)
is_community (named.Group id) valid = valid
is_community (named.Modules hw_type serial) valid = record {
  identifier = valid.0;
  each = (valid.1, tt);
  fits = omega (arith, modules_size hw_type serial valid.0 valid.1);
}

pub are_communities : (cs : List NamedCommunity) → AllByRecursion IsNamed cs
    → AllByRecursion IsCommunity (map community_of cs)
are_communities [] all = tt
are_communities (c ∷ cs) all = (is_community c all.0, are_communities cs all.1)

pub communities_size : (cs : List NamedCommunity) → AllByRecursion IsNamed cs
    → length (communities_contents (map community_of cs)) ≤ 228 * length cs
communities_size [] all = omega arith
communities_size (c ∷ cs) all =
    omega (
      arith,
      length-append (community_text (community_of c)) (communities_contents (map community_of cs)),
      community_size c all.0,
      communities_size cs all.1,
    )

pub kind_size : (kind : Option ℕ) → IfSome kind (λ n. n < 2 ^ 128) → length (text_if kind_text kind) ≤ 23
kind_size None valid = omega arith
kind_size (Some n) valid = number_size n valid

names_size : (names : List PackageName) → AllByRecursion IsName names → length (flat_map name_text names) ≤ 99 * length names
names_size [] all = omega arith
names_size (name ∷ names) all =
    omega (arith, length-append (name_text name) (flat_map name_text names), name_length name all.0, names_size names all.1)

pub dependencies_size : (names : List PackageName) → AllByRecursion IsName names → length names ≤ 8
    → length (dependencies_text names) ≤ 800
dependencies_size [] all few = omega arith
dependencies_size (name ∷ names) all few =
    let size = names_size (name ∷ names) all in
    omega (arith, size, few, length-enc-le 0x30 (flat_map name_text (name ∷ names)) (omega (arith, size, few)))
