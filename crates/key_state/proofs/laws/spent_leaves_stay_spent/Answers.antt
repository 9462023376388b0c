use Rattle.std.proofs.Common.{⊎_elim, arith}
use Rattle.edge_board.proofs.RunLemmas.{keeps_wider}
use Rattle.key_state.proofs.Rows.{length-use_in, spent_rise, spent_stay, use_other}
use Rattle.key_state.proofs.laws.spent_leaves_stay_spent.Goals as goal

pub returns : goal.returns
returns c = record {
  no_fewer = spent_stay;
  more = spent_rise;
  used = λ row. record { size = length-use_in row; each = λ i out. use_other row i out };
  cut = λ row next. keeps_wider row next
      (λ i. ⊎_elim (λ first. first) (λ none. absurd (omega (arith, none.1))));
}
