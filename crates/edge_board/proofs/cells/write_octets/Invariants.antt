use Rattle.std.proofs.Common.{◌≡◌, ◌+◌, drop}
use Rattle.edge_board.specs.Events.{written}
use Rattle.edge_board.proofs.cells.write_octets.Given as goal

abbrev pub invariant-loop-i : goal.invariant-loop-i
invariant-loop-i l = written (l.at + l.i) (drop l.i l.bytes) l.octets ≡ written l.at l.bytes l.fn.octets
