use Rattle.edge_board.proofs.RunLemmas.{change_wider}
use Rattle.key_state.proofs.Events.{row_spared}
use Rattle.key_state.proofs.laws.other_calls_spare_the_row.Goals as goal

pub returns-clause-spared : goal.returns-clause-spared
returns-clause-spared g c = λ told old new leaves doubt.
    row_spared told leaves doubt (g.B.Board.view old) (g.B.Board.view new) (g.met.B.Board.honest old)

pub returns-clause-sent : goal.returns-clause-sent
returns-clause-sent g c = λ told old new leaves doubt count blocks doubts changes.
    row_spared told leaves doubt (g.B.Board.view old) (g.B.Board.view new) (g.met.B.Board.honest old) count blocks doubts
    (change_wider (g.B.Board.view old) (g.B.Board.view new) (λ t i none. absurd none) changes)
