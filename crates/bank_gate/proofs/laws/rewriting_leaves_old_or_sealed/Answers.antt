use Rattle.bank_gate.proofs.WritingLemmas.{rewrite_written, rewrite_opened, opened_image}
use Rattle.bank_gate.proofs.laws.rewriting_leaves_old_or_sealed.Goals as goal

pub returns-clause-written : goal.returns-clause-written
returns-clause-written g c = λ told start new place free settled.
    rewrite_written place (g.B.Board.view start) (λ t. settled) told (λ image. ⊥) (g.B.Board.view new)

pub returns-clause-opening : goal.returns-clause-opening
returns-clause-opening g c = λ told start sealed new place free settled.
    rewrite_opened place (g.B.Board.view start) (λ t. settled) told (g.B.Board.view sealed) (g.B.Board.view new)

pub returns-clause-opened : goal.returns-clause-opened
returns-clause-opened g c = λ told sealed new place image switch opened.
    opened_image told place (g.B.Board.view sealed) (g.B.Board.view new) switch opened image
