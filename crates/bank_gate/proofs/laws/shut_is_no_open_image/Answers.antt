use Rattle.bank_gate.proofs.ImageLemmas.{shut_images, shut_by_images}
use Rattle.bank_gate.proofs.laws.shut_is_no_open_image.Goals as goal

pub returns : goal.returns
returns g c = record {
  images = λ told board place lies. (
    shut_images place (g.B.Board.view board),
    shut_by_images told place (g.B.Board.view board) (g.met.B.Board.honest board) lies,
  );
}
