-- The board that never fails, as its clauses show it.
use Rattle.edge_board.specs.Board.{View}
use Rattle.edge_board.specs.SureViews.{cells_view}
use Rattle.edge_board.specs.declared.sure_board.SureBoard.{SureBoard}
use Rattle.sha2.specs.Hashers.{Holds256}

-- what it means: its hash has taken in what was sent
abbrev pub sure_view : SureBoard → View
sure_view board =
    cells_view board.blocks board.cells.items board.pending.items (Holds256 board.hash)
