-- A board that tells its cells and no moments, and never fails.
use Rattle.std.specs.Prelude.{◌≡◌, ℕ, ◌*◌, ◌≤◌, List, length, Bool, true, false}
use Rattle.std.proofs.Common.{get_or}
use Rattle.edge_board.specs.Board.{View, IsHonest}

-- what it means: its cells, which of them are pending, and a test of what was sent
abbrev pub cells_view : ℕ → List ℕ → List Bool → (List ℕ → Type 0) → View
cells_view blocks cells pending sent = record {
  blocks = blocks;
  cells = cells;
  pending = λ i. get_or pending i false ≡ true;
  sent = sent;
  clock = 0;
  erased = 0;
  faults = 0;
  might = λ t image s. ⊥;
}

-- it is honest
pub cells_honest : (blocks : ℕ) (cells : List ℕ) (pending : List Bool) (sent : List ℕ → Type 0)
    → 1 ≤ blocks → blocks ≤ 8276 → length cells ≡ 4096 * blocks
    → IsHonest (Unit {0}) ⊥ (cells_view blocks cells pending sent)
cells_honest blocks cells pending sent least most size = record {
  least = least;
  most = most;
  size = λ told. size;
  whole = λ told. absurd told;
  some_sent = λ told. absurd told;
  one_sent = λ told. absurd told;
  counts_now = λ told. absurd told;
  only_now = λ image s left. absurd left;
}
