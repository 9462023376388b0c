use Rattle.edge_board.proofs.RunLemmas.{settled_image}
use Rattle.bank_gate.proofs.laws.settled_board_has_one_image.Goals as goal

pub returns : goal.returns
returns g c = record {
  image = λ told board image settled. settled_image (g.B.Board.view board) settled image;
}
