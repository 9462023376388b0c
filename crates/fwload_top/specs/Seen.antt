-- What is seen of a run: how it ended, and the source and the board before and after it.
use Rattle.edge_board.specs.Board.{View}
use Rattle.edge_board.specs.Supply.{Supply}
use Rattle.fwload_top.specs.declared.status.Status.{Status}

pub record Seen : Type 1 where
  -- whether the board tells its cells, and its moments
  pub tells_cells : Type 0
  pub tells_moments : Type 0
  pub status : Status
  pub source : Supply
  pub source' : Supply
  pub old : View
  pub new : View

abbrev pub seen : Type 0 → Type 0 → Status → Supply → Supply → View → View → Seen
seen tells_cells tells_moments status source source' old new = record {
  tells_cells = tells_cells;
  tells_moments = tells_moments;
  status = status;
  source = source;
  source' = source';
  old = old;
  new = new;
}
