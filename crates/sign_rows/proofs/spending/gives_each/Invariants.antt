use Rattle.std.proofs.Common.{◌≤◌}
use Rattle.sign_rows.proofs.spending.gives_each.Given as goal

abbrev pub invariant-loop-number : goal.invariant-loop-number
invariant-loop-number g l = 18 ≤ (g.B.Board.view l.board).blocks
