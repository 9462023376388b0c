-- An image in blocks of 4,096 octets that have numbers in a pool. The layout is this project's own.
use Rattle.std.specs.Prelude.{◌≡◌, ℕ, ◌+◌, ◌*◌, ◌/◌, ◌%◌, ◌<◌, ◌≤◌, List, [], ◌∷◌, ◌++◌, take, drop, length, slice_index, slice_index_or}
use Rattle.edge_board.specs.Board.{InBlock, cell}
use Rattle.package_attrs.specs.Image.{blocks_for}

-- the octets of the blocks with these numbers, in order; the pool's block 0 is block `base` of the flash
abbrev pub octets_of : ℕ → List ℕ → List ℕ → List ℕ
octets_of base [] cells = []
octets_of base (n ∷ numbers) cells = take 4096 (drop (4096 * (base + n)) cells) ++ octets_of base numbers cells

-- the image of so many octets that stands in the blocks
abbrev pub image_at : ℕ → List ℕ → ℕ → List ℕ → List ℕ
image_at base numbers image_size cells = take image_size (octets_of base numbers cells)

-- one of the positions of the blocks
abbrev pub InImageBlocks : ℕ → List ℕ → ℕ → Type 0
InImageBlocks base numbers i = (k : ℕ) × (k < length numbers) × InBlock (base + slice_index numbers k) i

-- ---- while an image is stored

-- the position of octet i of the blocks
abbrev pub position : ℕ → List ℕ → ℕ → ℕ
position base numbers i = 4096 * (base + slice_index numbers (i / 4096)) + i % 4096

-- the octets stand in the blocks, and FF behind them to the end of the last block that has begun
abbrev pub IsStored : ℕ → List ℕ → List ℕ → List ℕ → Type 0
IsStored base numbers octets cells =
    (i : ℕ) → i < 4096 * blocks_for (length octets)
    → cell cells (position base numbers i) ≡ slice_index_or octets i 255

-- a block reads FF from a place on
abbrev pub IsBlank : ℕ → ℕ → List ℕ → Type 0
IsBlank block place cells = (m : ℕ) → place + m < 4096 → cell cells (4096 * block + (place + m)) ≡ 255

-- a block holds the octets from a place on, and FF behind them
abbrev pub Holds : ℕ → ℕ → List ℕ → List ℕ → Type 0
Holds block place octets cells =
    (m : ℕ) → place + m < 4096 → cell cells (4096 * block + (place + m)) ≡ slice_index_or octets m 255

-- a block's octets before a place stay
abbrev pub KeepsFront : ℕ → ℕ → List ℕ → List ℕ → Type 0
KeepsFront block place old new = (j : ℕ) → j < place → cell new (4096 * block + j) ≡ cell old (4096 * block + j)

-- a count rises by the difference of two numbers at most
pub record RisesTo (from to before now : ℕ) : Type 0 where
  pub later : before ≤ now
  pub most : now + from ≤ before + to

-- and by that difference at least
abbrev pub RisesBy : ℕ → ℕ → ℕ → ℕ → Type 0
RisesBy from to before now = before + to ≤ now + from
