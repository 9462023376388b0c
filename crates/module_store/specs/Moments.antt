-- A store beside its flash over a run of calls that has no say in what the flash recovers to.
use Rattle.edge_board.specs.Board.{View}
use Rattle.edge_board.specs.Runs.{LeavesOnly}
use Rattle.bank_layout.specs.Changes.{LooksAs}
use Rattle.module_store.specs.declared.store.Store.{Store}
use Rattle.module_store.specs.Store.{manifest_of}

-- The flash still says what the store says, and the same stands there: now, and in each image that a power cut may have
-- left since. Nothing was sent.
pub record Stays (s : Store) (old new : View) : Type 0 where
  pub now : LooksAs old.cells new.cells s.module s.running (manifest_of s)
  pub moments : LeavesOnly old new (λ image sent.
      LooksAs old.cells image s.module s.running (manifest_of s) × old.sent sent)
