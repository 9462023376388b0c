-- What sending an answer leaves.
use Rattle.std.specs.Prelude.{◌≡◌, ◌⊎◌, ℕ, ◌≤◌, List}
use Rattle.edge_board.specs.Causes.{Rose}
use Rattle.edge_board.specs.Board.{View, Unchanged, Sent}
use Rattle.edge_board.specs.Runs.{LeavesOnly}
use Rattle.edge_board.specs.Sends.{FrontSent, SendsFront}
use Rattle.fwload_top.specs.declared.status.Status.{Status}
use Rattle.fwload_top.specs.declared.status.Status.TheVariants.{DeviceFault}

-- The line was sent and the status stands, or the board failed and a front of the line was sent. The flash stays.
pub record Replies (tells_cells tells_moments : Type 0) (status result : Status) (line : List ℕ) (old new : View) :
    Type 0 where
  pub ends : ((result ≡ status) × Sent old new line × (new.faults ≡ old.faults))
      ⊎ ((result ≡ DeviceFault) × FrontSent line old new × Rose old.faults new.faults)
  pub count : old.faults ≤ new.faults
  pub blocks : new.blocks ≡ old.blocks
  pub flash : tells_cells → Unchanged old new
  pub moments : tells_moments → LeavesOnly old new (SendsFront old line)
