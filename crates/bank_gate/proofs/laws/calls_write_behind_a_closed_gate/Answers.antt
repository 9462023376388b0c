use Rattle.bank_gate.proofs.WritingLemmas.{close_first, write_next}
use Rattle.bank_gate.proofs.laws.calls_write_behind_a_closed_gate.Goals as goal

pub returns-clause-close : goal.returns-clause-close
returns-clause-close g c = λ told start new place free settled touches already.
    close_first place (g.B.Board.view start) (λ t. settled) (g.B.Board.view new) touches (λ t. already)

pub returns-clause-then : goal.returns-clause-then
returns-clause-then g c = λ told start old new place free settled spared so_far shut touches.
    write_next place (g.B.Board.view start) (λ t. settled) (g.B.Board.view old) (g.B.Board.view new) (λ i f. f) spared
    so_far (λ t. shut) touches
