use Rattle.std.proofs.Common.{◌≡◌, ℕ, ◌+◌, ◌-◌, ◌<◌, ◌≤◌, ◌^◌, List, length}
use Rattle.edge_board.specs.Runs.{Touches}
use Rattle.content_stream.specs.Plans.{InFree}
use Rattle.load_input.specs.Inputs.{IsCounted}
use Rattle.item_intake.specs.Inflows.{Start}
use Rattle.item_intake.specs.Reading.{IsReading}
use Rattle.item_intake.specs.Turns.{HasRead, GoesOn, place_of}
use Rattle.item_intake.proofs.turns.read_turns.Given as goal

-- what one turn does, of all turns so far
abbrev pub invariant-loop : goal.invariant-loop
invariant-loop g l = record {
  read : (start : Start) (item : List ℕ)
      → IsReading g.B.Board.tells_cells g.B.Board.tells_moments start l.fn.pool (g.B.Board.view l.fn.board) l.fn.reader item
      → GoesOn item
      → HasRead g.B.Board.tells_cells g.B.Board.tells_moments start l.pool (g.B.Board.view l.board) l.reader item
      (place_of l.fn.input (g.S.Source.supply l.fn.source).left) (place_of l.input (g.S.Source.supply l.source).left) GoesOn;
  touches : (start : Start) (item : List ℕ)
      → IsReading g.B.Board.tells_cells g.B.Board.tells_moments start l.fn.pool (g.B.Board.view l.fn.board) l.fn.reader item
      → GoesOn item
      → Touches g.B.Board.tells_cells (InFree 84 start.pool) (g.B.Board.view l.fn.board) (g.B.Board.view l.board);
  later : l.fn.input.passed + length l.fn.input.octets ≤ l.input.passed + length l.input.octets;
  counted : (g.S.Source.supply l.source).taken < 2 ^ 64 - 1
      → IsCounted 0 l.fn.input l.input (g.S.Source.supply l.fn.source).taken (g.S.Source.supply l.source).taken;
  source : (g.S.Source.supply l.source).faults ≡ (g.S.Source.supply l.fn.source).faults;
  device : (g.B.Board.view l.board).faults ≡ (g.B.Board.view l.fn.board).faults;
}

abbrev pub decreases-loop : goal.decreases-loop
decreases-loop g l = 2 ^ 32 - l.input.passed
