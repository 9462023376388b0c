-- What a change of a module's flash does to what it recovers to: blocks that have no say, and an install. The rules are
-- this project's own.
use Rattle.std.specs.Prelude.{◌≡◌, ◌⊎◌, ℕ, ◌+◌, ◌*◌, ◌<◌, ◌≤◌, List, length, Contains, Option, Some, None, IfSome, All}
use Rattle.edge_board.specs.Board.{View, InBlock, IsSettled}
use Rattle.edge_board.specs.Runs.{LeavesOnly, Touches}
use Rattle.bank_gate.specs.States.{IsOpen, IsSealed, Stands}
use Rattle.block_pool.specs.Numbers.{IsApart}
use Rattle.key_state.specs.KeyBlock.{row_of}
use Rattle.lms_sign.specs.PublicKeys.{leaf_count}
use Rattle.package_attrs.specs.Identifier.{IsName}
use Rattle.module_record.specs.declared.module.Module.{Module}
use Rattle.config_table.specs.State.{State, Offer, entry_for, last_stale, with_package}
use Rattle.config_table.specs.Stored.{Stored}
use Rattle.bank_layout.specs.declared.bank.Bank.{Bank}
use Rattle.bank_layout.specs.declared.bank.Bank.TheVariants as banks
use Rattle.bank_layout.specs.declared.format.Format.TheVariants as formats
use Rattle.bank_layout.specs.Layout.{other, place_of, gate_block, manifest_start, InBank, InImageBlock}
use Rattle.bank_layout.specs.Manifest.{Manifest, IsManifest, IsEntry, manifest_text, named_blocks}
use Rattle.bank_layout.specs.Recovery.{Runs, HoldsModule, Recovers, standing_of}
use Rattle.bank_layout.specs.Recovery.Holder.{module_board}

-- ---- blocks without a say

-- the position lies in an image block that the state doesn't name
abbrev pub IsUnnamed : State Stored → ℕ → Type 0
IsUnnamed state i = (n : ℕ) × InImageBlock n i × ¬ Contains (named_blocks state) n

-- the position lies in an image block that no running manifest names; where no bank runs, that is any image block
abbrev pub IsUnnamedIn : ℕ → List ℕ → ℕ → Type 0
IsUnnamedIn capacity image i =
    (n : ℕ) × InImageBlock n i
    × ((bank : Bank) (m : Manifest) → Runs capacity image bank m → ¬ Contains (named_blocks m.state) n)

-- ---- images beside one another

-- the bank that an install writes: the one that doesn't run
abbrev pub spare : Option Bank → Bank
spare None = banks.Zero
spare (Some bank) = other bank

-- the module still holds b as it held a, and the same stands there
abbrev pub LooksAs : List ℕ → List ℕ → Module → Option Bank → Manifest → Type 0
LooksAs a b m running manifest =
    HoldsModule b m running manifest × (standing_of m manifest b ≡ standing_of m manifest a)

-- the same, but that the row may read otherwise
abbrev pub LooksAsButRow : List ℕ → List ℕ → Module → Option Bank → Manifest → Type 0
LooksAsButRow a b m running manifest =
    HoldsModule b m running manifest
    × (standing_of m manifest b ≡ record (standing_of m manifest a) { row = row_of (leaf_count m.key) b })

-- b recovers to what stood on a, or to what this manifest makes of a
abbrev pub OldOrNew : List ℕ → List ℕ → Module → Manifest → Manifest → Type 0
OldOrNew a b m manifest next =
    Recovers b (module_board m (standing_of m manifest a)) ⊎ Recovers b (module_board m (standing_of m next a))

-- ---- an install

-- An install over a board that a module holds: from `old` to `mid` it closes the spare's gate and writes and seals
-- the next manifest behind it, and from `mid` to `new` it rearms and opens the gate.
pub record Installs (told : Type 0) (m : Module) (running : Option Bank) (manifest next : Manifest)
    (old mid new : View) : Type 0 where
  pub holds : HoldsModule old.cells m running manifest
  pub settled : IsSettled old
  pub valid : IsManifest m.capacity next
  pub sequence : next.sequence ≡ manifest.sequence + 1
  pub writes : Touches told (InBank (spare running)) old mid
  -- while the next manifest is written, the gate is open only over what it was open over
  pub shut : LeavesOnly old mid (λ image s. IsOpen (place_of (spare running)) image → image ≡ old.cells)
  pub stands : Stands (manifest_start (spare running)) (manifest_text formats.Two next) mid.cells
  pub sealed : IsSealed (place_of (spare running)) mid
  pub switches : Touches told (InBlock (gate_block (spare running))) mid new

-- What an install asks of an offered package whose image is stored, beside the state that it goes into.
pub record IsNew (capacity : ℕ) (offer : Offer) (digest : List ℕ) (stored : Stored) (state : State Stored) :
    Type 0 where
  pub entry : IsEntry (entry_for offer digest stored)
  pub makes_stale : IfSome offer.makes_stale (λ entry. IsName (last_stale entry))
  -- its blocks are the module's, distinct, and none of them is named already
  pub below : All (λ n. n < 2 * capacity) stored.blocks
  pub apart : IsApart stored.blocks
  pub own : (n : ℕ) → Contains stored.blocks n → ¬ Contains (named_blocks state) n
  -- there is room afterwards
  pub fit : length (named_blocks (with_package offer digest stored state)) ≤ capacity
  pub packages : length (with_package offer digest stored state).packages ≤ 64
  pub stale : length (with_package offer digest stored state).stale ≤ 256
