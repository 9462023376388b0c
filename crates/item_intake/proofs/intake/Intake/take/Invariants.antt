use Rattle.std.proofs.Common.{◌≡◌, ℕ, List, ◌++◌, length}
use Rattle.edge_board.specs.Runs.{Touches}
use Rattle.content_stream.specs.Plans.{InFree}
use Rattle.item_intake.specs.Inflows.{Start}
use Rattle.item_intake.specs.Intakes.{IsIntake}
use Rattle.item_intake.proofs.intake.Intake.take.Given as goal

-- what one call does with all octets so far
abbrev pub invariant-loop-rest : goal.invariant-loop-rest
invariant-loop-rest g l = record {
  taken : (done : List ℕ) × (l.piece ≡ done ++ l.rest)
      × ((start : Start) (item : List ℕ)
      → IsIntake g.B.Board.tells_cells g.B.Board.tells_moments start l.fn.pool (g.B.Board.view l.fn.board) l.fn.self item
      → IsIntake g.B.Board.tells_cells g.B.Board.tells_moments start l.pool (g.B.Board.view l.board) l.self (item ++ done));
  touches : (start : Start) (item : List ℕ)
      → IsIntake g.B.Board.tells_cells g.B.Board.tells_moments start l.fn.pool (g.B.Board.view l.fn.board) l.fn.self item
      → Touches g.B.Board.tells_cells (InFree 84 start.pool) (g.B.Board.view l.fn.board) (g.B.Board.view l.board);
  faults : (g.B.Board.view l.board).faults ≡ (g.B.Board.view l.fn.board).faults;
}

abbrev pub decreases-loop-rest : goal.decreases-loop-rest
decreases-loop-rest g l = length l.rest
