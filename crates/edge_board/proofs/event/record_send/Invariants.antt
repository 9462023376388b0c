use Rattle.std.proofs.Common.{◌≡◌, ◌+◌, ◌++◌, drop, vec_len, vec_capacity}
use Rattle.edge_board.specs.Events.{sends}
use Rattle.edge_board.proofs.event.record_send.Given as goal

-- the octets so far are recorded and kept
abbrev pub invariant-loop-octet : goal.invariant-loop-octet
invariant-loop-octet l = record {
  events : l.events.items ++ sends (drop l.octet-index l.bytes)
      ≡ l.fn.events.items ++ sends l.bytes;
  sent : l.sent.items ++ drop l.octet-index l.bytes ≡ l.fn.sent.items ++ l.bytes;
  len : vec_len l.events ≡ vec_len l.fn.events + l.octet-index;
  capacity : vec_capacity l.events ≡ vec_capacity l.fn.events;
  sent_len : vec_len l.sent ≡ vec_len l.fn.sent + l.octet-index;
  sent_capacity : vec_capacity l.sent ≡ vec_capacity l.fn.sent;
}
