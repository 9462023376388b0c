-- What calls leave of a board's row.
use Rattle.std.proofs.Common.{◌≡◌, ⊎_elim, inl, inr, ℕ, ◌+◌, ◌≤◌, List, [], ◌∷◌, ◌++◌, refl, sym, subst, arith}
use Rattle.std.specs.Prelude.{Contains}
use Rattle.std.proofs.lemmas.List.{ext_get_or}
use Rattle.std.proofs.lemmas.List.Elements.{Contains-push, Contains-append_left}
use Rattle.edge_board.specs.Board.{View, IsHonest, Keeps}
use Rattle.edge_board.specs.Runs.{Touches, Changes}
use Rattle.key_state.specs.Row.{spent_in}
use Rattle.key_state.specs.KeyBlock.{row_of, row_start, IsLeafCount, InRow, FirstUnspent}
use Rattle.key_state.specs.Histories.{IsDoubt, IsEvent, SparesRow}
use Rattle.key_state.proofs.Rows.{row_fits, row_keeps}

-- the place in the row of the position of its first unspent leaf
place_is : (leaves place : ℕ) (cells : List ℕ) → FirstUnspent leaves cells (row_start + place)
    → place ≡ spent_in (row_of leaves cells)
place_is leaves place cells first = omega (arith, first.1)

-- a spend, whatever it answers
pub spend_event : {tc tm : Type 0} → tc → (leaves : ℕ) (doubt : List ℕ) (old new : View) → IsHonest tc tm old
    → IsLeafCount leaves → 18 ≤ old.blocks → IsDoubt leaves old doubt
    → Touches tc (FirstUnspent leaves old.cells) old new → IsEvent leaves doubt old new
spend_event told leaves doubt old new honest count blocks doubts touches =
    let fits = row_fits told leaves old honest count blocks in
    let first = spent_in (row_of leaves old.cells) in
    record {
      fails = row_keeps {places = λ place. place ≡ first} leaves old.cells new.cells fits
          (λ place lt free. place_is leaves place old.cells free) (touches.cells told);
      doubts = λ place lt pending. ⊎_elim
          (λ free. subst (λ (k : ℕ). Contains (doubt ++ first ∷ []) k)
          (sym (place_is leaves place old.cells free)) (Contains-push doubt first))
          (λ was. Contains-append_left doubt (first ∷ []) place (doubts place lt was))
          (touches.pending told (row_start + place) pending);
      cuts = λ image s left. row_keeps leaves old.cells image fits
          (λ place lt. ⊎_elim (λ free. inl (place_is leaves place old.cells free)) (λ was. inr (doubts place lt was)))
          ((touches.images told).each image s left).0;
    }

-- calls that write no position of the row
pub row_spared : {tc tm : Type 0} → tc → (leaves : ℕ) (doubt : List ℕ) (old new : View) → IsHonest tc tm old
    → IsLeafCount leaves → 18 ≤ old.blocks → IsDoubt leaves old doubt
    → Changes tc (λ i. ¬ InRow leaves i) old new → SparesRow leaves doubt old new
row_spared told leaves doubt old new honest count blocks doubts changes =
    let fits = row_fits told leaves old honest count blocks in
    let kept : Keeps (λ place. ⊥) (row_of leaves old.cells) (row_of leaves new.cells) =
    row_keeps leaves old.cells new.cells fits (λ place lt outside. outside (place, lt, refl)) (changes.cells told) in
    record {
      same = ext_get_or 0 (row_of leaves new.cells) (row_of leaves old.cells) kept.size
          (λ i lt. kept.each i (λ none. none));
      doubts = λ place lt pending. ⊎_elim (λ outside. absurd (outside (place, lt, refl))) (doubts place lt)
          (changes.pending told (row_start + place) pending);
      cuts = λ image s left. row_keeps leaves old.cells image fits
          (λ place lt. ⊎_elim (λ outside. absurd (outside (place, lt, refl))) (λ was. inr (doubts place lt was)))
          ((changes.images told).each image s left);
    }
