-- CommunityIdentifiers: its values and their texts (RFC 4108, section 2.2.8).
--
--   CommunityIdentifiers ::= SEQUENCE OF CommunityIdentifier
--
--   CommunityIdentifier ::= CHOICE {
--     communityOID OBJECT IDENTIFIER,
--     hwModuleList HardwareModules }
--
--   HardwareModules ::= SEQUENCE {
--     hwType OBJECT IDENTIFIER,
--     hwSerialEntries SEQUENCE OF HardwareSerialEntry }
--
--   HardwareSerialEntry ::= CHOICE {
--     all NULL,
--     single OCTET STRING,
--     block SEQUENCE {
--       low OCTET STRING,
--       high OCTET STRING } }
--
-- Either list may be empty. Here a serial number has 1 to 64 octets.
use Rattle.std.specs.Prelude.{ℕ, ◌<◌, ◌^◌, List, [], ◌++◌, length}
use Rattle.std.specs.List.{AllByRecursion, flat_map}
use Rattle.der_core.specs.Element.{enc}
use Rattle.der_core.specs.Objects.{IsOid}
use Rattle.package_attrs.specs.declared.community.SerialEntry.{SerialEntry}
use Rattle.package_attrs.specs.declared.community.SerialEntry.TheVariants as entries
use Rattle.package_attrs.specs.declared.community.Community.{Community}
use Rattle.package_attrs.specs.declared.community.Community.TheVariants as communities
use Rattle.package_attrs.specs.Identifier.{HasOneTo64}

-- ---- serial entries

-- HardwareSerialEntry: NULL, a serial number's octets, or the SEQUENCE of the two ends of a block
abbrev pub serial_entry_text : SerialEntry → List ℕ
serial_entry_text entries.All = enc 0x05 []
serial_entry_text (entries.Single serial) = enc 0x04 serial
serial_entry_text (entries.Block low high) = enc 0x30 (enc 0x04 low ++ enc 0x04 high)

-- a serial entry that has a text; the ends of a block may stand in any order
abbrev pub IsSerialEntry : SerialEntry → Type 0
IsSerialEntry entries.All = Unit {0}
IsSerialEntry (entries.Single serial) = HasOneTo64 serial
IsSerialEntry (entries.Block low high) = HasOneTo64 low × HasOneTo64 high

-- ---- communities

-- the contents of HardwareModules: the hardware type, and the SEQUENCE of the serial entries
abbrev pub modules_contents : List ℕ → List SerialEntry → List ℕ
modules_contents hw_type serials = enc 0x06 hw_type ++ enc 0x30 (flat_map serial_entry_text serials)

-- CommunityIdentifier: a community's identifier, or the SEQUENCE of the modules of a hardware type
abbrev pub community_text : Community → List ℕ
community_text (communities.Group id) = enc 0x06 id
community_text (communities.Modules hw_type serials) = enc 0x30 (modules_contents hw_type serials)

-- modules that have a text: an element has room for them
pub record AreModules (hw_type : List ℕ) (serials : List SerialEntry) : Type 0 where
  pub identifier : IsOid hw_type
  pub each : AllByRecursion IsSerialEntry serials
  pub fits : length (modules_contents hw_type serials) < 2 ^ 32

-- a community that has a text
abbrev pub IsCommunity : Community → Type 0
IsCommunity (communities.Group id) = IsOid id
IsCommunity (communities.Modules hw_type serials) = AreModules hw_type serials

-- the contents of CommunityIdentifiers
abbrev pub communities_contents : List Community → List ℕ
communities_contents cs = flat_map community_text cs

-- the whole of it
abbrev pub communities_text : List Community → List ℕ
communities_text cs = enc 0x30 (communities_contents cs)

-- communities that have a text: an element has room for them
pub record AreCommunities (cs : List Community) : Type 0 where
  pub each : AllByRecursion IsCommunity cs
  pub fits : length (communities_contents cs) < 2 ^ 32
