-- The store of a module, which is in memory what the flash says of the module: its definitions are this project's own.
use Rattle.std.specs.Prelude.{◌≡◌, ℕ, ◌+◌, ◌*◌, ◌≤◌, ◌<◌, ◌^◌, List, [], ◌++◌, length, Option, None, Some, All, find}
use Rattle.std.specs.Option.{option_map_or}
use Rattle.package_attrs.specs.declared.name.PackageName.{PackageName}
use Rattle.config_table.specs.Names.{is_same}
use Rattle.block_pool.specs.Pools.{IsLive, LiveExactly}
use Rattle.config_table.specs.State.{Entry, Offer, with_package}
use Rattle.config_table.specs.Stored.{Stored}
use Rattle.module_record.specs.ModuleRecord.{IsModule, BeginsWithModuleRecord}
use Rattle.module_record.specs.declared.module.Module.{Module}
use Rattle.bank_layout.specs.declared.bank.Bank.{Bank}
use Rattle.bank_layout.specs.declared.format.Format.TheVariants as formats
use Rattle.bank_gate.specs.States.{IsOpen}
use Rattle.bank_layout.specs.Layout.{board_size, factory, first_image_block, record_octets}
use Rattle.bank_layout.specs.Manifest.{Manifest, IsManifest, manifest_text, named_blocks}
use Rattle.bank_layout.specs.Recovery.{HoldsModule, first_manifest}
use Rattle.bank_layout.specs.Changes.{IsNew}
use Rattle.module_store.specs.declared.store.Store.{Store}
use Rattle.module_store.specs.declared.installing.Ready.{Ready}

-- ---- the store

-- what the store says of the installed packages
abbrev pub manifest_of : Store → Manifest
manifest_of s = record { sequence = s.sequence; state = s.state }

-- the manifest of a running bank is a valid one; where none runs, nothing was ever installed
abbrev pub CanRun : ℕ → Option Bank → Manifest → Type 0
CanRun capacity None m = m ≡ first_manifest
CanRun capacity (Some bank) m = IsManifest capacity m

-- A valid store.
pub record IsStore (s : Store) : Type 0 where
  pub owner : IsModule s.module
  pub manifest : CanRun s.module.capacity s.running (manifest_of s)
  -- the module's image blocks are its pool, and those that the state names are live
  pub blocks : length s.pool ≡ 2 * s.module.capacity
  pub live : All (IsLive s.pool) (named_blocks s.state)

-- the store is the one that the image recovers to
abbrev pub IsStoreOf : Store → List ℕ → Type 0
IsStoreOf s image = HoldsModule image s.module s.running (manifest_of s)

-- no module holds the image
abbrev pub HoldsNoModule : List ℕ → Type 0
HoldsNoModule image = (m : Module) (running : Option Bank) (manifest : Manifest) → ¬ HoldsModule image m running manifest

-- The image is a module's, whatever its banks hold: it is large enough for the module, and the module's record stands
-- behind the open factory gate.
pub record IsOwnedBy (image : List ℕ) (m : Module) : Type 0 where
  pub size : board_size m.capacity ≤ length image
  pub gate : IsOpen factory image
  pub text : BeginsWithModuleRecord (record_octets image) m

-- the board has as many blocks as the store's module needs
abbrev pub HasBlocks : Store → ℕ → Type 0
HasBlocks s blocks = first_image_block + 2 * s.module.capacity ≤ blocks

-- no block is live but those that the state names
abbrev pub IsQuiet : Store → Type 0
IsQuiet s = LiveExactly s.pool (named_blocks s.state)

-- the blocks that the state names are live and these too, and no others
abbrev pub AreLiveBeside : Store → List ℕ → Type 0
AreLiveBeside s numbers = LiveExactly s.pool (named_blocks s.state ++ numbers)

-- the blocks of the package that has this name, in whatever version; none where there is no such package
abbrev pub replaced_blocks : PackageName → List (Entry Stored) → List ℕ
replaced_blocks name packages =
    option_map_or (λ entry. entry.image.blocks) (find (λ entry. is_same name entry.name) packages) []

-- ---- what is asked before an install

-- The offered package can be prepared for the store: its image, of this digest, is stored in live blocks, and there is
-- room for it and for a further install.
pub record CanPrepare (s : Store) (offer : Offer) (digest : List ℕ) (stored : Stored) : Type 0 where
  pub valid : IsStore s
  pub sequence : s.sequence + 1 < 2 ^ 64
  pub fresh : IsNew s.module.capacity offer digest stored s.state
  pub live : AreLiveBeside s stored.blocks

-- what is installed by what is ready
abbrev pub next_of : Ready → Manifest
next_of ready = record { sequence = ready.sequence; state = ready.state }

-- It was made ready for the store as it stands: an offered package that can be prepared, and the text of the manifest
-- with it.
pub record IsReady (s : Store) (ready : Ready) : Type 0 where
  pub offer : Offer
  pub digest : List ℕ
  pub stored : Stored
  pub can : CanPrepare s offer digest stored
  pub name : ready.name ≡ offer.name
  pub made : next_of ready ≡ record { sequence = s.sequence + 1; state = with_package offer digest stored s.state }
  pub text : ready.octets.items ≡ manifest_text formats.Two (next_of ready)
