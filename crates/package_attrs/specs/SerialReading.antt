-- The reading of serial entries (RFC 4108, section 2.2.8), by the shapes of their texts.
use Rattle.std.specs.Prelude.{ℕ, List, length, ◌==◌, if◌then◌else◌, Some, None}
use Rattle.der_core.specs.Reading.{octets_of}
use Rattle.der_core.specs.Shapes.{Front, Whole, element, alone, before, choice, mapped}
use Rattle.package_attrs.specs.declared.community.SerialEntry.{SerialEntry}
use Rattle.package_attrs.specs.declared.community.SerialEntry.TheVariants as entries
use Rattle.package_attrs.specs.Reading.{octets_at}

-- no octets, for a value that needs none
abbrev pub nothing : {V : Type 0} → V → Whole V
nothing v bytes = if length bytes == 0 then Some v else None

-- the two ends of a block
unfoldable pub block_of : Whole (List ℕ × List ℕ)
block_of = before octets_at (alone octets_at)

-- a serial entry at the front: all where a NULL stands there, one where an OCTET STRING does, and else a block
unfoldable pub serial_entry_at : Front SerialEntry
serial_entry_at =
    choice 0x05 (element 0x05 (nothing entries.All))
    (choice 0x04 (element 0x04 (mapped (λ serial. entries.Single serial) octets_of))
    (element 0x30 (mapped (λ ends. entries.Block ends.0 ends.1) block_of)))
