use Rattle.std.proofs.Common.{◌≡◌, ◌+◌, drop}
use Rattle.key_state.specs.Row.{spent_in}
use Rattle.key_state.proofs.spending.count_spent.Given as goal

abbrev pub invariant-loop-i : goal.invariant-loop-i
invariant-loop-i l = l.i + spent_in (drop l.i l.row) ≡ spent_in l.row
