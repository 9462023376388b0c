use Rattle.std.proofs.Common.{arith}
use Rattle.bank_gate.proofs.ImageLemmas.{no_image_opens, body_not_in_gate}
use Rattle.bank_gate.proofs.laws.no_open_gate_while_written.Goals as goal

pub returns : goal.returns
returns g c = record {
  shut = λ told old new place image sent is shut touches.
      no_image_opens place (g.B.Board.view old) (g.B.Board.view new) told
      (λ inside. body_not_in_gate place _ is inside (omega arith, omega arith)) shut touches image sent;
}
