-- Which modules a community holds (RFC 4108, section 2.2.8).
--
--   CommunityIdentifier ::= CHOICE {
--     communityOID OBJECT IDENTIFIER,
--     hwModuleList HardwareModules }
--
--   HardwareModules ::= SEQUENCE {
--     hwType OBJECT IDENTIFIER,
--     hwSerialEntries SEQUENCE OF HardwareSerialEntry }
--
--   HardwareSerialEntry ::= CHOICE {
--     all NULL,
--     single OCTET STRING,
--     block SEQUENCE {
--       low OCTET STRING,
--       high OCTET STRING } }
--
-- RFC 4108 leaves open how serial numbers compare; that the order is that of octets is this project's own rule.
use Rattle.std.specs.Prelude.{ℕ, List, length, Bool, true, ◌&&◌, nat_eq, bytes_eq}
use Rattle.std.specs.List.{list_any}
use Rattle.std.specs.Ordering.{nat_cmp, is_le}
use Rattle.std.specs.Cmp.Lexicographic.{slice_cmp}
use Rattle.package_attrs.specs.declared.community.Community.{Community}
use Rattle.package_attrs.specs.declared.community.Community.TheVariants as communities
use Rattle.package_attrs.specs.declared.community.SerialEntry.{SerialEntry}
use Rattle.package_attrs.specs.declared.community.SerialEntry.TheVariants as entries
use Rattle.package_rules.specs.Module.{Module}

-- the first comes before the other or is equal to it: by the first octet in which they differ
abbrev pub is_up_to : List ℕ → List ℕ → Bool
is_up_to one other = is_le (slice_cmp nat_cmp one other)

-- a serial number between two of its own length, both included
abbrev pub is_in_block : List ℕ → List ℕ → List ℕ → Bool
is_in_block serial low high =
    (nat_eq (length low) (length serial) && nat_eq (length high) (length serial))
    && (is_up_to low serial && is_up_to serial high)

-- an entry that names this serial number: each, this one alone, or a block in which it is
abbrev pub names_serial : List ℕ → SerialEntry → Bool
names_serial serial entries.All = true
names_serial serial (entries.Single one) = bytes_eq one serial
names_serial serial (entries.Block low high) = is_in_block serial low high

-- a community that holds the module: one whose identifier the module lists, or one of its hardware type with an entry
-- that names its serial number
abbrev pub holds_module : Module → Community → Bool
holds_module m (communities.Group group) = list_any (λ listed. bytes_eq listed group) m.communities
holds_module m (communities.Modules hw_type serials) =
    bytes_eq hw_type m.hw_type && list_any (names_serial m.serial) serials
