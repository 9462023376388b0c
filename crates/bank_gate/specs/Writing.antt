-- What a power cut leaves while a bank is written anew: behind its gate, and while the gate is opened.
use Rattle.std.specs.Prelude.{◌≡◌, ◌⊎◌, ℕ, List, Bool, true}
use Rattle.edge_board.specs.Board.{View, Keeps, Within, InBlock}
use Rattle.edge_board.specs.Runs.{LeavesOnly, Touches}
use Rattle.bank_gate.specs.declared.place.Place.{Place}
use Rattle.bank_gate.specs.Places.{gate_at}
use Rattle.bank_gate.specs.States.{IsOpen}

-- one of a set of positions
abbrev pub InSet : (ℕ → Bool) → ℕ → Type 0
InSet set i = set i ≡ true

-- the gate's position, or a free one
abbrev pub GateOr : Place → (ℕ → Type 0) → ℕ → Type 0
GateOr place free i = Within (gate_at place) 1 i ⊎ free i

-- A run of calls closed the gate and changed the free positions behind it: in each image the gate is
-- open only where nothing has changed.
pub record WritesBehind (told : Type 0) (place : Place) (free : ℕ → Type 0) (old new : View) : Type 0 where
  pub touches : Touches told (GateOr place free) old new
  pub moments : told → LeavesOnly old new (λ image s. IsOpen place image → image ≡ old.cells)

-- What a power cut leaves of the start, from the close of the gate to the end of its opening: where the
-- gate is open, all is as it was at the start, or the body has been written.
pub record RewriteLeaves (place : Place) (free : ℕ → Type 0) (written : List ℕ → Type 0)
    (start image : List ℕ) : Type 0 where
  pub opened : IsOpen place image → (image ≡ start) ⊎ written image
  pub others : Keeps (λ i. InBlock place.gate i ⊎ free i) start image

-- The same, with nothing sent since.
abbrev pub RewriteMoment : Place → (ℕ → Type 0) → (List ℕ → Type 0) → View → List ℕ → List ℕ → Type 0
RewriteMoment place free written start image s =
    RewriteLeaves place free written start.cells image × start.sent s
