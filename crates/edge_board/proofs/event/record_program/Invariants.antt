use Rattle.std.proofs.Common.{◌≡◌, ◌+◌, ◌∷◌, ◌++◌, drop, length, vec_len, vec_capacity}
use Rattle.edge_board.specs.Events.{fills}
use Rattle.edge_board.specs.declared.event.BoardEvent.TheVariants.{Mark}
use Rattle.edge_board.proofs.event.record_program.Given as goal

-- the octets so far are recorded
abbrev pub invariant-loop-i : goal.invariant-loop-i
invariant-loop-i l = record {
  events : l.events.items ++ fills (l.at + l.i) (drop l.i l.bytes)
      ≡ l.fn.events.items ++ Mark l.at (length l.bytes) ∷ fills l.at l.bytes;
  len : vec_len l.events ≡ vec_len l.fn.events + 1 + l.i;
  capacity : vec_capacity l.events ≡ vec_capacity l.fn.events;
}
