-- One store that is kept in memory over several rounds, beside its board.
use Rattle.std.specs.Prelude.{◌≡◌, ℕ, ◌+◌, ◌<◌, ◌≤◌, ◌^◌, Bool, List, length, Option}
use Rattle.edge_board.specs.Board.{View, IsSettled}
use Rattle.edge_board.specs.Runs.{Touches}
use Rattle.package_attrs.specs.Image.{blocks_for}
use Rattle.config_table.specs.State.{Offer, with_package}
use Rattle.config_table.specs.Stored.{Stored}
use Rattle.content_stream.specs.Plans.{InStream, IsPlanned, Plan}
use Rattle.bank_layout.specs.Layout.{first_image_block}
use Rattle.bank_layout.specs.Manifest.{named_blocks}
use Rattle.module_store.specs.Store.{HasBlocks, IsQuiet, IsStore, IsStoreOf}
use Rattle.module_store.specs.declared.store.Store.{Store}

-- The board holds the store, a valid one in which no block is live but its own, and nothing is pending.
pub record IsInStep (s : Store) (v : View) : Type 0 where
  pub valid : IsStore s
  pub quiet : IsQuiet s
  pub blocks : HasBlocks s v.blocks
  pub settled : IsSettled v
  pub holds : IsStoreOf s v.cells

-- A stream took these blocks of the pool, where it had enough, and wrote those alone. Nothing is pending then.
pub record StreamsInto (old new : List Bool) (blocks : Option (List ℕ)) (before after : View) : Type 0 where
  pub size : ℕ
  pub front : List ℕ
  pub plan : Plan
  pub planned : IsPlanned first_image_block size front old new plan
  pub taken : blocks ≡ plan.blocks
  pub touches : Touches (Unit {0}) (InStream plan) before after
  pub settled : IsSettled after

-- The store has room for the package with this image, and for a further install.
pub record HasRoom (s : Store) (offer : Offer) (digest : List ℕ) (stored : Stored) : Type 0 where
  pub sequence : s.sequence + 1 < 2 ^ 64
  pub some : 1 ≤ stored.length
  pub blocks : length stored.blocks ≡ blocks_for stored.length
  pub digest_size : length digest ≡ 32
  pub fit : length (named_blocks (with_package offer digest stored s.state)) ≤ s.module.capacity
  pub packages : length (with_package offer digest stored s.state).packages ≤ 64
  pub stale : length (with_package offer digest stored s.state).stale ≤ 256
