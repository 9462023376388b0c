use Rattle.bank_gate.proofs.ImageLemmas.{settled_images, body_not_in_gate}
use Rattle.bank_gate.proofs.laws.body_stands_while_switched.Goals as goal

pub returns : goal.returns
returns g c = record {
  body = λ told old new place image sent i is settled touches left inside.
      (settled_images (g.B.Board.view old) (g.B.Board.view new) told settled touches image sent left).each i
      (body_not_in_gate place i is inside);
}
