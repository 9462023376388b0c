use Rattle.std.proofs.Common.{◌≡◌, ◌<◌, ◌-◌, ◌^◌, length, ◌+◌, ◌≤◌}
use Rattle.edge_board.specs.Board.{IsSettled}
use Rattle.bank_layout.specs.Recovery.{standing_of}
use Rattle.module_store.specs.Store.{IsQuiet, IsStore, IsStoreOf, manifest_of}
use Rattle.load_input.specs.Inputs.{IsCounted, ahead}
use Rattle.loader_core.specs.Loops.{InTurns}
use Rattle.loader_core.proofs.items.answer_items.Given as goal

-- all items so far were answered, no call has failed, and the store stands for the next item
abbrev pub invariant-loop-refused : goal.invariant-loop-refused
invariant-loop-refused g l = record {
  valid : IsStore l.store;
  quiet : IsQuiet l.store;
  size : (g.B.Board.view l.board).blocks ≡ (g.B.Board.view l.fn.board).blocks;
  owner : l.store.module ≡ l.fn.store.module;
  tree : l.tree ≡ l.fn.tree;
  settled : g.B.Board.tells_cells → IsSettled (g.B.Board.view l.board);
  holds : g.B.Board.tells_cells → IsStoreOf l.store (g.B.Board.view l.board).cells;
  turns : InTurns g.B.Board.tells_cells g.B.Board.tells_moments l.fn.store.module l.fn.at
      (standing_of l.fn.store.module (manifest_of l.fn.store) (g.B.Board.view l.fn.board).cells)
      (standing_of l.fn.store.module (manifest_of l.store) (g.B.Board.view l.board).cells)
      (g.B.Board.view l.fn.board) (g.B.Board.view l.board)
      (ahead l.fn.input (g.S.Source.supply l.fn.source)) (ahead l.input (g.S.Source.supply l.source))
      l.fn.input.passed l.input.passed l.refused;
  counted : (g.S.Source.supply l.source).taken < 2 ^ 64 - 1
      → IsCounted 0 l.fn.input l.input (g.S.Source.supply l.fn.source).taken (g.S.Source.supply l.source).taken;
  source : (g.S.Source.supply l.source).faults ≡ (g.S.Source.supply l.fn.source).faults;
  device : (g.B.Board.view l.board).faults ≡ (g.B.Board.view l.fn.board).faults;
}

abbrev pub decreases-loop-refused : goal.decreases-loop-refused
decreases-loop-refused g l = 2 ^ 32 - l.input.passed
