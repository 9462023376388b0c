-- The reading of a package's attributes. That it is the package that they describe is proved in the contract of
-- `read_package`.
use Rattle.std.specs.Prelude.{ℕ, List, length, nat_eq, ◌==◌, Option, Some, None, option_map}
use Rattle.std.specs.Cmp.Lexicographic.{pointwise}
use Rattle.std.specs.List.{find}
use Rattle.std.specs.Option.{option_map_or, unwrap_or}
use Rattle.der_core.specs.Attribute.{Attribute}
use Rattle.der_core.specs.Reading.{◌>>?◌}
use Rattle.der_core.specs.Shapes.{Whole, alone, tested}
use Rattle.der_core.specs.TimeReading.{time_at}
use Rattle.der_core.specs.declared.time_value.Time.{Time}
use Rattle.package_attrs.specs.declared.community.Community.{Community}
use Rattle.package_attrs.specs.declared.package.Info.{Info}
use Rattle.package_attrs.specs.AttributeTypes.{content_type, message_digest, signing_time, firmware_package_id}
use Rattle.package_attrs.specs.AttributeTypes.{target_hardware_ids, community_identifiers, firmware_package_info}
use Rattle.package_attrs.specs.Description.{Description}
use Rattle.package_attrs.specs.Identifier.{Named}
use Rattle.package_attrs.specs.Information.{no_info}
use Rattle.package_attrs.specs.ListReading.{targets_of, communities_of, info_of}
use Rattle.package_attrs.specs.Reading.{oid_at, octet_string_of, identifier_of}

-- the values of the attribute of a type
unfoldable pub values_of : List ℕ → List Attribute → Option (List ℕ)
values_of kind attrs = option_map (λ a. a.values) (find (λ a. pointwise nat_eq a.kind kind) attrs)

-- the one value of the attribute of a type
abbrev pub needed : {V : Type 0} → List ℕ → Whole V → List Attribute → Option V
needed kind whole attrs = values_of kind attrs >>? whole

-- the same, or none where there is no such attribute
abbrev pub at_most_one : {V : Type 0} → List ℕ → Whole V → List Attribute → Option (Option V)
at_most_one kind whole attrs =
    option_map_or (λ values. whole values >>? λ v. Some (Some v)) (values_of kind attrs) (Some None)

-- one identifier
unfoldable pub one_oid_of : Whole (List ℕ)
one_oid_of = alone oid_at

-- one OCTET STRING of 32 octets
unfoldable pub digest_of : Whole (List ℕ)
digest_of = tested (λ digest. length digest == 32) octet_string_of

-- one time, in either form
unfoldable pub one_time_of : Whole Time
one_time_of = alone time_at

-- ---- the parts of a package

unfoldable pub content_in : List Attribute → Option (List ℕ)
content_in attrs = needed content_type one_oid_of attrs

unfoldable pub digest_in : List Attribute → Option (List ℕ)
digest_in attrs = needed message_digest digest_of attrs

unfoldable pub identifier_in : List Attribute → Option Named
identifier_in attrs = needed firmware_package_id identifier_of attrs

unfoldable pub targets_in : List Attribute → Option (List (List ℕ))
targets_in attrs = needed target_hardware_ids targets_of attrs

unfoldable pub communities_in : List Attribute → Option (Option (List Community))
communities_in attrs = at_most_one community_identifiers communities_of attrs

unfoldable pub info_in : List Attribute → Option Info
info_in attrs = at_most_one firmware_package_info info_of attrs >>? λ found. Some (unwrap_or found no_info)

unfoldable pub time_in : List Attribute → Option (Option Time)
time_in attrs = at_most_one signing_time one_time_of attrs

-- the package that the attributes describe
unfoldable pub package_of : List Attribute → Option Description
package_of attrs =
    content_in attrs >>? λ content.
    digest_in attrs >>? λ digest.
    identifier_in attrs >>? λ identifier.
    time_in attrs >>? λ time.
    targets_in attrs >>? λ targets.
    communities_in attrs >>? λ communities.
    info_in attrs >>? λ info.
    Some (record {
      content = content;
      digest = digest;
      identifier = identifier;
      targets = targets;
      communities = communities;
      info = info;
    })
