-- The tables of a manifest, as they are read.
use Rattle.std.specs.Prelude.{◌≡◌, ℕ, ◌≤◌, List, length, Option, Some, option_map}
use Rattle.std.specs.List.{IsDistinct}
use Rattle.der_core.specs.Shapes.{listed}
use Rattle.config_table.specs.declared.stale_entry.StaleEntry.{StaleEntry}
use Rattle.config_table.specs.Names.{is_same}
use Rattle.config_table.specs.State.{Entry, State, names_of, stale_names_of}
use Rattle.config_table.specs.Stored.{Stored}
use Rattle.bank_layout.specs.declared.format.Format.{Format}
use Rattle.bank_layout.specs.Manifest.{Manifest}
use Rattle.bank_layout.specs.Reading.{entry_at, stale_at}

-- packages that a table may have
pub record ArePackages (packages : List (Entry Stored)) : Type 0 where
  pub few : length packages ≤ 64
  pub distinct : IsDistinct is_same (names_of packages)

-- the octets are these packages, which a table may have
pub record ReadsPackages (format : Format) (octets : List ℕ) (packages : List (Entry Stored)) : Type 0 where
  pub read : listed (entry_at format) octets ≡ Some packages
  pub are : ArePackages packages

-- stale entries that a table may have
pub record AreStale (stale : List StaleEntry) : Type 0 where
  pub few : length stale ≤ 256
  pub distinct : IsDistinct is_same (stale_names_of stale)

pub record ReadsStale (octets : List ℕ) (stale : List StaleEntry) : Type 0 where
  pub read : listed stale_at octets ≡ Some stale
  pub are : AreStale stale

-- the manifest that was found
abbrev pub found_manifest : Option (ℕ × State Stored) → Option Manifest
found_manifest found = option_map (λ x. record { sequence = x.0; state = x.1 }) found
