-- What a power cut leaves of the cells, as a test picks it.
use Rattle.std.specs.Prelude.{◌≡◌, ℕ, ◌<◌, List, length, Bool, slice_index, slice_index_or, false, if◌then◌else◌}
use Rattle.edge_board.specs.Board.{Keeps}
use Rattle.edge_board.specs.declared.pick.Pick.{Pick}
use Rattle.edge_board.specs.declared.pick.Pick.TheVariants.{Keep, Before, Fill}

-- what a pending cell holds then: the octet that it reads, the one of the last sync, or another
abbrev pub picked_octet : Pick → ℕ → ℕ → ℕ
picked_octet Keep cell synced = cell
picked_octet Before cell synced = synced
picked_octet (Fill x) cell synced = x

-- The image has the picked octet in each pending cell, and every other cell as it reads.
pub record IsPicked (pick : Pick) (pending : ℕ → Type 0) (cells synced image : List ℕ) :
    Type 0 where
  pub others : Keeps pending cells image
  pub each : (i : ℕ) → i < length cells → pending i
      → slice_index image i ≡ picked_octet pick (slice_index cells i) (slice_index synced i)

-- what any cell holds then: only a pending one is picked
abbrev pub picked_at : Pick → ℕ → Bool → ℕ → ℕ
picked_at pick cell pending synced = if pending then picked_octet pick cell synced else cell

-- The same by position, with flags for the pending cells.
pub record IsPickedBy (pick : Pick) (pending : List Bool) (cells synced image : List ℕ) :
    Type 0 where
  pub size : length image ≡ length cells
  pub each : (i : ℕ) → i < length cells
      → slice_index image i ≡ picked_at pick (slice_index cells i) (slice_index_or pending i false)
      (slice_index synced i)
