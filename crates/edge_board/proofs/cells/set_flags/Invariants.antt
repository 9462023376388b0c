use Rattle.std.proofs.Common.{true, ◌≡◌, ◌+◌, ◌-◌}
use Rattle.edge_board.specs.Events.{filled}
use Rattle.edge_board.proofs.cells.set_flags.Given as goal

abbrev pub invariant-loop-i : goal.invariant-loop-i
invariant-loop-i l = filled l.i (l.at + l.count - l.i) true l.flags ≡ filled l.at l.count true l.fn.flags
