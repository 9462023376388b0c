-- What a loop over items knows of a power cut. A bridge between the code and `Kept`: nothing here has to be believed.
use Rattle.std.specs.Prelude.{◌≡◌, ◌≢◌, ◌⊎◌, ℕ, ◌<◌, List, [], ◌∷◌, ◌++◌, length, slice_index, IsTrue}
use Rattle.edge_board.specs.Sends.{IsFront}
use Rattle.key_state.specs.Row.{spent_in}
use Rattle.module_record.specs.declared.module.Module.{Module}
use Rattle.bank_layout.specs.Recovery.{Standing}
use Rattle.judge_core.specs.Verdicts.{Verdict}
use Rattle.load_claims.specs.Items.{JudgesAt, answer, after, uses_leaf}
use Rattle.load_claims.specs.Kept.{SameStore}

-- Inside one item: a front of its answer was sent. Before its first octet the store is the old or the new one and the
-- first unspent leaf may be spent; from then on all is new.
pub record InOne (m : Module) (start : Standing) (verdict : Verdict) (now : Standing) (s : List ℕ) : Type 0 where
  pub front : IsFront (answer m start verdict) s
  pub stands : SameStore now start ⊎ SameStore now (after start verdict)
  pub size : length now.row ≡ length start.row
  pub others : (i : ℕ) → i ≢ spent_in start.row → slice_index now.row i ≡ slice_index start.row i
  pub cause : (now.row ≡ start.row) ⊎ IsTrue (uses_leaf verdict)
  pub certain : 0 < length s → now ≡ after start verdict

-- nothing has happened yet
abbrev pub NotBegun : Standing → Standing → List ℕ → Type 0
NotBegun start now s = (now ≡ start) × (s ≡ [])

-- Inside a run: it hasn't begun, or it is inside the first item, or that one was answered and it is inside the rest.
abbrev pub InRun : Module → ℕ → Standing → List (List ℕ) → Standing → List ℕ → Type 0
InRun m at start [] now s = NotBegun start now s
InRun m at start (item ∷ items) now s =
    NotBegun start now s
    ⊎ ((verdict : Verdict) × JudgesAt m at start item verdict
    × (InOne m start verdict now s
    ⊎ ((rest : List ℕ) × (s ≡ answer m start verdict ++ rest) × InRun m at (after start verdict) items now rest)))
