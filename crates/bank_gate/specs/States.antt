-- How a board stands in each state of a bank. An image is what a power cut may leave.
use Rattle.std.specs.Prelude.{◌≡◌, ℕ, ◌+◌, ◌<◌, ◌≤◌, List, length, slice_index}
use Rattle.edge_board.specs.Board.{View, IsSettled, cell}
use Rattle.bank_gate.specs.declared.place.Place.{Place}
use Rattle.bank_gate.specs.Places.{gate_at}

-- the gate is open: its octet is 0F
abbrev pub IsOpen : Place → List ℕ → Type 0
IsOpen place cells = cell cells (gate_at place) ≡ 15

-- No image has an open gate: its octet can't change in a power cut, and isn't 0F.
pub record IsShut (place : Place) (v : View) : Type 0 where
  pub stable : ¬ v.pending (gate_at place)
  pub gate : ¬ IsOpen place v.cells

-- Nothing is pending, and the gate isn't open.
pub record IsSealed (place : Place) (v : View) : Type 0 where
  pub settled : IsSettled v
  pub gate : ¬ IsOpen place v.cells

-- Nothing is pending, and the gate is FF.
pub record IsArmed (place : Place) (v : View) : Type 0 where
  pub settled : IsSettled v
  pub gate : cell v.cells (gate_at place) ≡ 255

-- Nothing is pending, and the gate is open.
pub record IsOpened (place : Place) (v : View) : Type 0 where
  pub settled : IsSettled v
  pub gate : IsOpen place v.cells

-- these octets stand from the position on
abbrev pub Stands : ℕ → List ℕ → List ℕ → Type 0
Stands at bytes cells =
    (i : ℕ) → i < length bytes → cell cells (at + i) ≡ slice_index bytes i

-- n octets from one position on are those that stood from another position on
abbrev pub Copies : ℕ → ℕ → ℕ → List ℕ → List ℕ → Type 0
Copies from to n old new = (i : ℕ) → i < n → cell new (to + i) ≡ cell old (from + i)

-- a count doesn't fall, and rises by n at most
abbrev pub RisesAtMost : ℕ → ℕ → ℕ → Type 0
RisesAtMost n before now = (before ≤ now) × (now ≤ before + n)
