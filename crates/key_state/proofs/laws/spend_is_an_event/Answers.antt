use Rattle.std.proofs.Common.{sym, ◌<◌, subst, ℕ}
use Rattle.key_state.proofs.Rows.{row_fits, row_length}
use Rattle.key_state.proofs.Events.{spend_event}
use Rattle.key_state.proofs.laws.spend_is_an_event.Goals as goal

pub returns-clause-gives : goal.returns-clause-gives
returns-clause-gives g c = λ told old new leaves leaf count blocks first below row settled.
    let long = row_length leaves (g.B.Board.view old).cells
    (row_fits told leaves (g.B.Board.view old) (g.met.B.Board.honest old) count blocks) in
    record {
      gives = (subst (λ (n : ℕ). leaf < n) (sym long) below, first, row);
      doubts = λ place lt pending. absurd (settled _ pending);
    }

pub returns-clause-gives_none : goal.returns-clause-gives_none
returns-clause-gives_none g c = λ told old new leaves doubt.
    spend_event told leaves doubt (g.B.Board.view old) (g.B.Board.view new) (g.met.B.Board.honest old)
