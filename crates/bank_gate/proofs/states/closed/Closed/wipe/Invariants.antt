use Rattle.std.proofs.Common.{◌≡◌, ◌-◌, ◌*◌}
use Rattle.edge_board.specs.Board.{AllRead}
use Rattle.edge_board.specs.Runs.{Touches}
use Rattle.bank_gate.specs.Places.{InManifest}
use Rattle.bank_gate.specs.States.{RisesAtMost}
use Rattle.bank_gate.proofs.states.closed.Closed.wipe.Given as goal

-- the blocks so far read FF, and the manifest alone was written
abbrev pub invariant-loop-block : goal.invariant-loop-block
invariant-loop-block g l = record {
  touches : Touches g.B.Board.tells_cells (InManifest l.fn.self)
      (g.B.Board.view l.fn.board) (g.B.Board.view l.board);
  reads : g.B.Board.tells_cells
      → AllRead (4096 * l.fn.self.manifest) (4096 * (l.block - l.fn.self.manifest)) 255
      (g.B.Board.view l.board).cells;
  erased : RisesAtMost (l.block - l.fn.self.manifest)
      (g.B.Board.view l.fn.board).erased (g.B.Board.view l.board).erased;
  faults : (g.B.Board.view l.board).faults ≡ (g.B.Board.view l.fn.board).faults;
}
