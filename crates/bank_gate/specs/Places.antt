-- Where a bank lies in a flash of blocks of 4,096 octets. The layout is this project's own.
use Rattle.std.specs.Prelude.{ℕ, ◌⊎◌, ◌+◌, ◌*◌, ◌<◌, ◌≤◌}
use Rattle.edge_board.specs.Board.{Within}
use Rattle.bank_gate.specs.declared.place.Place.{Place}

-- n blocks from a on and m blocks from b on have none in common
abbrev pub Apart : ℕ → ℕ → ℕ → ℕ → Type 0
Apart a n b m = (block : ℕ) → Within a n block → Within b m block → ⊥

-- The parts of the place lie in a flash of so many blocks.
pub record LiesBelow (blocks : ℕ) (place : Place) : Type 0 where
  pub gate : place.gate < blocks
  pub manifest : place.manifest + place.manifest_blocks ≤ blocks
  pub area : place.area + place.area_blocks ≤ blocks

-- The parts lie in the greatest flash and have no block in common.
pub record IsPlace (place : Place) : Type 0 where
  pub below : LiesBelow 8276 place
  pub gate_manifest : Apart place.gate 1 place.manifest place.manifest_blocks
  pub gate_area : Apart place.gate 1 place.area place.area_blocks
  pub manifest_area : Apart place.manifest place.manifest_blocks place.area place.area_blocks

-- the position of the gate: the first octet of its block
abbrev pub gate_at : Place → ℕ
gate_at place = 4096 * place.gate

-- one of the positions of n blocks from this one on
abbrev pub InBlocks : ℕ → ℕ → ℕ → Type 0
InBlocks block n i = Within (4096 * block) (4096 * n) i

-- one of the manifest's positions
abbrev pub InManifest : Place → ℕ → Type 0
InManifest place i = InBlocks place.manifest place.manifest_blocks i

-- one of the area's positions
abbrev pub InArea : Place → ℕ → Type 0
InArea place i = InBlocks place.area place.area_blocks i

-- one of the positions of the body: of the manifest or of the area
abbrev pub InBody : Place → ℕ → Type 0
InBody place i = InManifest place i ⊎ InArea place i

-- all of n positions from `at` on lie in the blocks
abbrev pub LiesIn : ℕ → ℕ → ℕ → ℕ → Type 0
LiesIn block blocks at n = (4096 * block ≤ at) × (at + n ≤ 4096 * (block + blocks))

-- all of n positions from `at` on lie in the manifest, or in the area
abbrev pub LiesInBody : Place → ℕ → ℕ → Type 0
LiesInBody place at n =
    LiesIn place.manifest place.manifest_blocks at n ⊎ LiesIn place.area place.area_blocks at n
