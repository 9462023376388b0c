-- The reading of target hardware, communities and package information (RFC 4108, sections 2.2.4, 2.2.8 and 2.2.9), by
-- the shapes of their texts.
use Rattle.std.specs.Prelude.{ℕ, Bool, List, [], length, nat_lt, ◌&&◌}
use Rattle.std.specs.Option.{unwrap_or}
use Rattle.der_core.specs.Reading.{number_of, oid_of}
use Rattle.der_core.specs.Shapes.{Front, Whole, element, alone, before, optional, choice, mapped, tested, listed}
use Rattle.der_core.specs.Shapes.{maybe_before}
use Rattle.package_attrs.specs.declared.community.SerialEntry.{SerialEntry}
use Rattle.package_attrs.specs.declared.community.Community.{Community}
use Rattle.package_attrs.specs.declared.community.Community.TheVariants as communities
use Rattle.package_attrs.specs.declared.name.PackageName.{PackageName}
use Rattle.package_attrs.specs.declared.package.Info.{Info}
use Rattle.package_attrs.specs.Reading.{oid_at, name_at}
use Rattle.package_attrs.specs.SerialReading.{serial_entry_at}

-- ---- target hardware

-- the hardware types
unfoldable pub targets_of : Whole (List (List ℕ))
targets_of = alone (element 0x30 (listed oid_at))

-- ---- communities

-- a hardware type and serial entries
unfoldable pub modules_of : Whole (List ℕ × List SerialEntry)
modules_of = before oid_at (alone (element 0x30 (listed serial_entry_at)))

-- a community at the front: an identifier where one stands there, else modules
unfoldable pub community_at : Front Community
community_at =
    choice 0x06 (element 0x06 (mapped (λ id. communities.Group id) oid_of))
    (element 0x30 (mapped (λ modules. communities.Modules modules.0 modules.1) modules_of))

-- the communities
unfoldable pub communities_of : Whole (List Community)
communities_of = alone (element 0x30 (listed community_at))

-- ---- package information

-- there are 1 to 8 names
abbrev pub is_some_and_few : List PackageName → Bool
is_some_and_few names = nat_lt 0 (length names) && nat_lt (length names) 9

-- 1 to 8 names
unfoldable pub names_of : Whole (List PackageName)
names_of = tested is_some_and_few (listed name_at)

-- the dependencies, where any octets are left
unfoldable pub dependencies_of : Whole (List PackageName)
dependencies_of = mapped (λ names. unwrap_or names []) (optional (alone (element 0x30 names_of)))

-- the type at the front
unfoldable pub kind_at : Front ℕ
kind_at = element 0x02 number_of

-- the type, where an INTEGER stands at the front, and the dependencies
unfoldable pub info_fields_of : Whole Info
info_fields_of =
    mapped (λ x. record { kind = x.0; dependencies = x.1 }) (maybe_before 0x02 kind_at dependencies_of)

-- the two
unfoldable pub info_of : Whole Info
info_of = alone (element 0x30 info_fields_of)
