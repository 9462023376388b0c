-- The boards in memory, as their clauses show them.
use Rattle.std.specs.Prelude.{◌≡◌, ℕ, List, []}
use Rattle.edge_board.specs.Board.{View, IsSettled}
use Rattle.edge_board.specs.BoardPlan.{BoardPlan}
use Rattle.edge_board.specs.Events.{run, begun, view_of}
use Rattle.edge_board.specs.Schedules.{plan_of}
use Rattle.edge_board.specs.declared.mem_board.MemBoard.{MemBoard}

-- what a board in memory means
abbrev pub mem_view : MemBoard → View
mem_view board =
    view_of board.blocks board.base.items board.events.items board.erased board.schedule.faults

-- which of its calls fail
abbrev pub board_plan : MemBoard → BoardPlan
board_plan board = plan_of board.schedule

-- its cells at the last sync that answered Ok, or at its start
abbrev pub synced_cells : MemBoard → List ℕ
synced_cells board = (run (begun board.base.items) board.events.items).synced

-- A new board: these cells, all of them settled, and nothing sent, erased or failed yet.
pub record Begins (count : ℕ) (octets : List ℕ) (board : MemBoard) : Type 0 where
  pub blocks : (mem_view board).blocks ≡ count
  pub cells : (mem_view board).cells ≡ octets
  pub synced : synced_cells board ≡ octets
  pub settled : IsSettled (mem_view board)
  pub sent : (mem_view board).sent []
  pub erased : (mem_view board).erased ≡ 0
  pub faults : (mem_view board).faults ≡ 0
