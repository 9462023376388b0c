-- What a flash recovers to after a power cut: who holds it, and what stands there. The layout and the rules are this
-- project's own.
--
-- Without an open factory gate, or with a factory record that isn't valid, nobody holds a flash. A key's record makes a
-- key's board of 18 blocks or more. Under a module's record, on a board that is large enough for its capacity, the open
-- bank with the greatest sequence runs, bank 0 on a tie, and its manifest gives the sequence and the state; where no
-- bank's gate is open, nothing was installed. Where an open bank's manifest isn't valid, there is no module.
use Rattle.std.specs.Prelude.{◌≡◌, ℕ, ◌<◌, ◌≤◌, List, length, Option, Some, None}
use Rattle.bank_gate.specs.States.{IsOpen}
use Rattle.content_stream.specs.ImageBlocks.{image_at}
use Rattle.key_state.specs.KeyBlock.{row_of}
use Rattle.lms_sign.specs.declared.key.SignKey.{SignKey}
use Rattle.lms_sign.specs.PublicKeys.{leaf_count}
use Rattle.module_record.specs.KeyRecord.{BeginsWithKeyRecord}
use Rattle.module_record.specs.ModuleRecord.{BeginsWithModuleRecord}
use Rattle.module_record.specs.declared.module.Module.{Module}
use Rattle.config_table.specs.State.{State, state_with, empty_state}
use Rattle.config_table.specs.Stored.{Stored}
use Rattle.bank_layout.specs.declared.bank.Bank.{Bank}
use Rattle.bank_layout.specs.declared.bank.Bank.TheVariants as banks
use Rattle.bank_layout.specs.Layout.{factory, record_octets, key_board_size, other, place_of, manifest_octets, board_size, first_image_block}
use Rattle.bank_layout.specs.Manifest.{Manifest, BeginsWithManifest}

-- ---- which bank runs

-- The bank's gate is open over this manifest.
pub record IsOver (capacity : ℕ) (image : List ℕ) (bank : Bank) (m : Manifest) : Type 0 where
  pub gate : IsOpen (place_of bank) image
  pub text : BeginsWithManifest capacity (manifest_octets bank image) m

-- the bank runs before the other one: its sequence is greater, and bank 0 runs on a tie
abbrev pub IsBefore : Bank → Manifest → Manifest → Type 0
IsBefore banks.Zero mine others = others.sequence ≤ mine.sequence
IsBefore banks.One mine others = others.sequence < mine.sequence

-- The bank runs with this manifest: its gate is open over it, and if the other gate is open, it is over a manifest
-- that comes after this one.
pub record Runs (capacity : ℕ) (image : List ℕ) (bank : Bank) (m : Manifest) : Type 0 where
  pub over : IsOver capacity image bank m
  pub before : IsOpen (place_of (other bank)) image
      → (others : Manifest) × IsOver capacity image (other bank) others × IsBefore bank m others

-- what a module with no open bank has
abbrev pub first_manifest : Manifest
first_manifest = record { sequence = 0; state = empty_state }

-- what is in force: the running bank's manifest, or nothing installed where no gate is open
abbrev pub IsInForce : ℕ → List ℕ → Option Bank → Manifest → Type 0
IsInForce capacity image None m = ((bank : Bank) → ¬ IsOpen (place_of bank) image) × (m ≡ first_manifest)
IsInForce capacity image (Some bank) m = Runs capacity image bank m

-- ---- what is found

-- the octets of an installed image: the first of its blocks, in their order
abbrev pub image_octets : List ℕ → Stored → List ℕ
image_octets image stored = image_at first_image_block stored.blocks stored.length image

-- What stands on a module's flash: a sequence number, the state with the octets of its images, and the row of leaves.
pub record Standing : Type 0 where
  pub sequence : ℕ
  pub state : State (List ℕ)
  pub row : List ℕ

-- what stands there under a manifest
abbrev pub standing_of : Module → Manifest → List ℕ → Standing
standing_of m manifest image = record {
  sequence = manifest.sequence;
  state = state_with (image_octets image) manifest.state;
  row = row_of (leaf_count m.key) image;
}

-- ---- who holds a flash

-- Who holds a flash.
pub data Holder : Type 0 where
  nobody : Holder
  -- a signing key, with the row of its leaves
  key_board : SignKey → List ℕ → Holder
  -- a module, with what stands there
  module_board : Module → Standing → Holder

-- The image is that of a board of at least 18 blocks, the factory gate is open, and blocks 1 to 16 begin with
-- the record of this key.
pub record HoldsKey (image : List ℕ) (key : SignKey) : Type 0 where
  pub size : key_board_size ≤ length image
  pub gate : IsOpen factory image
  pub text : BeginsWithKeyRecord (record_octets image) key

-- The board is large enough for the module, the factory gate is open, blocks 1 to 16 begin with the module's
-- record, and this bank runs, with this manifest.
pub record HoldsModule (image : List ℕ) (m : Module) (running : Option Bank) (manifest : Manifest) : Type 0 where
  pub size : board_size m.capacity ≤ length image
  pub gate : IsOpen factory image
  pub text : BeginsWithModuleRecord (record_octets image) m
  pub in_force : IsInForce m.capacity image running manifest

-- The image recovers to this holder. The row is in the first 32 or 1,024 octets of block 17.
abbrev pub Recovers : List ℕ → Holder → Type 0
Recovers image nobody =
    ((key : SignKey) → ¬ HoldsKey image key)
    × ((m : Module) (running : Option Bank) (manifest : Manifest) → ¬ HoldsModule image m running manifest)
Recovers image (key_board key row) = HoldsKey image key × (row ≡ row_of (leaf_count key) image)
Recovers image (module_board m standing) =
    (running : Option Bank) × (manifest : Manifest) × HoldsModule image m running manifest
    × (standing ≡ standing_of m manifest image)

-- somebody holds the image
abbrev pub IsHeld : List ℕ → Type 0
IsHeld image = ¬ Recovers image nobody
