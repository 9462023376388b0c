-- Which of two banks runs.
use Rattle.std.specs.Prelude.{ℕ, nat_le, Option, None, Some, if◌then◌else◌}
use Rattle.config_table.specs.State.{State}
use Rattle.config_table.specs.Stored.{Stored}
use Rattle.bank_layout.specs.declared.bank.Bank.{Bank}
use Rattle.bank_layout.specs.declared.bank.Bank.TheVariants as banks
use Rattle.bank_layout.specs.Manifest.{Manifest}
use Rattle.bank_layout.specs.Recovery.{first_manifest}

-- a manifest that is read
abbrev pub manifest_in : ℕ × State Stored → Manifest
manifest_in x = record { sequence = x.0; state = x.1 }

-- what runs, of the manifests that the open gates of bank 0 and bank 1 are over: that of the greater sequence, and that
-- of bank 0 on a tie
abbrev pub choice : Option (ℕ × State Stored) → Option (ℕ × State Stored) → Option Bank × Manifest
choice None None = (None, first_manifest)
choice None (Some one) = (Some banks.One, manifest_in one)
choice (Some zero) None = (Some banks.Zero, manifest_in zero)
choice (Some zero) (Some one) =
    if nat_le one.0 zero.0 then (Some banks.Zero, manifest_in zero) else (Some banks.One, manifest_in one)
