use Rattle.key_state.proofs.Rows.{row_fits, row_length}
use Rattle.key_state.proofs.laws.row_has_a_place_a_leaf.Goals as goal

pub returns : goal.returns
returns g c = record {
  length = λ told board leaves count blocks. row_length leaves (g.B.Board.view board).cells
      (row_fits told leaves (g.B.Board.view board) (g.met.B.Board.honest board) count blocks);
}
