-- A run over items on a board: what it answers, and what a power cut may leave of it.
use Rattle.std.specs.Prelude.{◌≡◌, ℕ, Bool, List, length}
use Rattle.edge_board.specs.Board.{View, Sent, IsSettled}
use Rattle.edge_board.specs.Runs.{LeavesOnly}
use Rattle.edge_board.specs.Sends.{Sending}
use Rattle.module_record.specs.declared.module.Module.{Module}
use Rattle.bank_layout.specs.Recovery.{Standing, Recovers}
use Rattle.bank_layout.specs.Recovery.Holder.{module_board}
use Rattle.judge_core.specs.Verdicts.{Verdict}
use Rattle.load_claims.specs.Items.{JudgesAt, Judged, after, after_all, answers, some_refused}
use Rattle.load_claims.specs.Kept.{Finds, KeptIn, SameStore}
use Rattle.load_claims.specs.Inside.{InRun}

-- ---- for a reader

-- All these items were judged and answered, one of them was refused or none was, and this stands on the board.
pub record Loads (m : Module) (at : ℕ) (start end : Standing) (items : List (List ℕ)) (refused : Bool) (old new : View) :
    Type 0 where
  pub verdicts : List Verdict
  pub judged : Judged m at start items verdicts
  pub all : length verdicts ≡ length items
  pub refused_is : some_refused verdicts ≡ refused
  pub end_is : end ≡ after_all start verdicts
  pub sent : Sent old new (answers m start verdicts)
  pub found : Recovers new.cells (module_board m end)

-- A power cut at any moment since old leaves what `Kept` says: the store after a front of the items, a front of their
-- answers, and no leaf spent but for these.
abbrev pub CutsKeep : Module → ℕ → Standing → List (List ℕ) → View → View → Type 0
CutsKeep m at start items old new = LeavesOnly old new (Sending old (KeptIn m at start items))

-- ---- for a loop

-- the same in the loop's form
abbrev pub LeavesRun : Module → ℕ → Standing → List (List ℕ) → View → View → Type 0
LeavesRun m at start items old new =
    LeavesOnly old new (Sending old (λ image s. Finds m (λ now. InRun m at start items now s) image))

-- The verdict on the item is given, and its package is installed if it is accepted; no leaf is spent for it yet, and
-- nothing is pending.
pub record IsInstalled (m : Module) (at : ℕ) (start : Standing) (item : List ℕ) (verdict : Verdict) (now : View) :
    Type 0 where
  pub given : JudgesAt m at start item verdict
  pub standing : Standing
  pub found : Recovers now.cells (module_board m standing)
  pub store : SameStore standing (after start verdict)
  pub row : standing.row ≡ start.row
  pub settled : IsSettled now
