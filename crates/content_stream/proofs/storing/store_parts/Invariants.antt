use Rattle.std.proofs.Common.{◌≡◌, ℕ, ◌+◌, ◌-◌, ◌≤◌, List, ◌++◌, length, take}
use Rattle.edge_board.specs.Runs.{Touches}
use Rattle.content_stream.specs.ImageBlocks.{InImageBlocks, IsStored, RisesBy, RisesTo}
use Rattle.package_attrs.specs.Image.{blocks_for}
use Rattle.content_stream.proofs.storing.store_parts.Given as goal

-- so many octets are stored, and the blocks alone were written
abbrev pub invariant-loop-done : goal.invariant-loop-done
invariant-loop-done g l = record {
  within : l.done ≤ length l.image;
  touches : Touches g.B.Board.tells_cells (InImageBlocks l.base l.numbers)
      (g.B.Board.view l.fn.board) (g.B.Board.view l.board);
  stored : g.B.Board.tells_cells → (before : List ℕ) → length before ≡ l.stored
      → IsStored l.base l.numbers before (g.B.Board.view l.fn.board).cells
      → IsStored l.base l.numbers (before ++ take l.done l.image) (g.B.Board.view l.board).cells;
  erased : RisesTo (blocks_for l.stored) (blocks_for (l.stored + l.done))
      (g.B.Board.view l.fn.board).erased (g.B.Board.view l.board).erased;
  least : g.B.Board.tells_moments → RisesBy (blocks_for l.stored) (blocks_for (l.stored + l.done))
      (g.B.Board.view l.fn.board).erased (g.B.Board.view l.board).erased;
  faults : (g.B.Board.view l.board).faults ≡ (g.B.Board.view l.fn.board).faults;
}

abbrev pub decreases-loop-done : goal.decreases-loop-done
decreases-loop-done g l = length l.image - l.done
