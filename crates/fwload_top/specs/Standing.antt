-- What stands on a module's board, as the commands that read it print it or judge by it.
use Rattle.std.specs.Prelude.{◌≡◌, ℕ, List, length}
use Rattle.config_table.specs.State.{State, state_with}
use Rattle.module_record.specs.declared.module.Module.{Module}
use Rattle.bank_layout.specs.Recovery.{Standing, Recovers}
use Rattle.bank_layout.specs.Recovery.Holder.{module_board}
use Rattle.module_store.specs.declared.fault.OpenFault.{OpenFault}
use Rattle.module_store.specs.declared.fault.OpenFault.TheVariants as faults
use Rattle.fwload_top.specs.declared.status.Status.{Status}
use Rattle.fwload_top.specs.declared.status.Status.TheVariants.{NotAModule, DeviceFault, NoMemory}

-- no module holds the board
abbrev pub HasNoModule : List ℕ → Type 0
HasNoModule cells = (m : Module) (standing : Standing) → ¬ Recovers cells (module_board m standing)

-- The board recovers to this module, at this sequence number and with this state, whose images are given by their
-- lengths.
pub record StandsAt (cells : List ℕ) (m : Module) (sequence : ℕ) (state : State ℕ) : Type 0 where
  pub standing : Standing
  pub recovers : Recovers cells (module_board m standing)
  pub sequence_is : sequence ≡ standing.sequence
  pub state_is : state ≡ state_with (λ (octets : List ℕ). length octets) standing.state

-- the status that a run ends with where its module's store wasn't opened
abbrev pub unopened : OpenFault → Status
unopened faults.NotAModule = NotAModule
unopened faults.Fault = DeviceFault
unopened faults.Memory = NoMemory
