use Rattle.std.proofs.Common.{◌≡◌, ◌+◌, ◌-◌}
use Rattle.edge_board.specs.Events.{filled}
use Rattle.edge_board.proofs.cells.fill_octets.Given as goal

abbrev pub invariant-loop-i : goal.invariant-loop-i
invariant-loop-i l = filled l.i (l.at + l.count - l.i) l.octet l.octets
    ≡ filled l.at l.count l.octet l.fn.octets
