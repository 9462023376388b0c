-- What holds of a run with any command: when it may end with a fault or with too long an input, and when it is silent.
use Rattle.std.specs.Prelude.{◌≡◌, ◌↔◌, ℕ, ◌+◌, ◌-◌, ◌<◌, ◌≤◌, ◌^◌}
use Rattle.edge_board.specs.Causes.{Rose}
use Rattle.edge_board.specs.Board.{SameTest}
use Rattle.fwload_top.specs.declared.status.Status.TheVariants.{DeviceFault, SourceFault, InputTooLong}
use Rattle.fwload_top.specs.Status.{IsSilent}
use Rattle.fwload_top.specs.Seen.{Seen}

-- A fault is answered exactly where a call failed, and too long an input exactly where more octets than the limit were
-- taken. A count stays at 2^64 - 1 once it is there.
pub record HasCauses (limit : ℕ) (r : Seen) : Type 0 where
  pub source_count : r.source.faults ≤ r.source'.faults
  pub device_count : r.old.faults ≤ r.new.faults
  pub source_fault : r.status ≡ SourceFault → Rose r.source.faults r.source'.faults
  pub device_fault : r.status ≡ DeviceFault → Rose r.old.faults r.new.faults
  -- no call that failed is passed over
  pub source_calm : ¬ (r.status ≡ SourceFault) → r.source'.faults ≡ r.source.faults
  pub device_calm : ¬ (r.status ≡ DeviceFault) → r.new.faults ≡ r.old.faults
  pub too_long : r.source'.taken < 2 ^ 64 - 1
      → (r.status ≡ InputTooLong) ↔ (r.source.taken + limit < r.source'.taken)
  -- one octet beyond the limit tells that there are more
  pub most : r.source'.taken < 2 ^ 64 - 1 → r.source'.taken ≤ r.source.taken + limit + 1
  pub silent : IsSilent r.status → SameTest r.old.sent r.new.sent

-- No call on the source or the board failed.
pub record Undisturbed (r : Seen) : Type 0 where
  pub source : Rose r.source.faults r.source'.faults → ⊥
  pub device : Rose r.old.faults r.new.faults → ⊥
