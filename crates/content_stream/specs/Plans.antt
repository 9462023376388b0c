-- What is settled when a stream of a content begins.
use Rattle.std.specs.Prelude.{◌≡◌, ℕ, ◌+◌, ◌-◌, ◌<◌, ◌≤◌, List, Bool, true, [], length, take, slice_index, Option, None, Some, unwrap_or}
use Rattle.edge_board.specs.Board.{InBlock}
use Rattle.block_pool.specs.Pools.{IsFree, free_numbers, marked}
use Rattle.content_stream.specs.Wraps.{IsWrapSize}
use Rattle.content_stream.specs.ImageBlocks.{InImageBlocks}
use Rattle.package_attrs.specs.Image.{blocks_for}

-- What a stream is to do.
pub record Plan : Type 0 where
  -- how many octets the content has, and how many of them stand before the image
  pub content_size : ℕ
  pub wrap_size : ℕ
  -- block 0 of the pool is this block of the flash
  pub base : ℕ
  -- the numbers of its blocks in the pool, where that had enough
  pub blocks : Option (List ℕ)

-- how many octets the image has
abbrev pub image_size : Plan → ℕ
image_size plan = plan.content_size - plan.wrap_size

-- how many of its blocks have begun, where so many octets of the content were fed
abbrev pub blocks_begun : Plan → ℕ → ℕ
blocks_begun plan fed = blocks_for (fed - plan.wrap_size)

-- the numbers of its blocks; none where there are no blocks
abbrev pub numbers_of : Plan → List ℕ
numbers_of plan = unwrap_or plan.blocks []

-- one of the positions of its blocks
abbrev pub InStream : Plan → ℕ → Type 0
InStream plan i = InImageBlocks plan.base (numbers_of plan) i

-- its blocks lie in a flash of so many
abbrev pub LiesBelow : ℕ → Plan → Type 0
LiesBelow blocks plan =
    (k : ℕ) → k < length (numbers_of plan) → plan.base + slice_index (numbers_of plan) k < blocks

-- the n least free blocks become live, or fewer are free and the pool stays
abbrev pub TakesBlocks : ℕ → List Bool → List Bool → Option (List ℕ) → Type 0
TakesBlocks n old new None = (length (free_numbers old) < n) × (new ≡ old)
TakesBlocks n old new (Some numbers) =
    (n ≤ length (free_numbers old)) × (numbers ≡ take n (free_numbers old)) × (new ≡ marked true numbers old)

-- The plan for a content that begins so: its image's blocks are taken from the pool.
pub record IsPlanned (base content_size : ℕ) (front : List ℕ) (old new : List Bool) (plan : Plan) : Type 0 where
  pub same_base : plan.base ≡ base
  pub same_size : plan.content_size ≡ content_size
  pub wrap : IsWrapSize content_size front plan.wrap_size
  pub short : plan.wrap_size ≤ 6
  pub taken : TakesBlocks (blocks_for (image_size plan)) old new plan.blocks

-- one of the positions of a pool's free blocks
abbrev pub InFree : ℕ → List Bool → ℕ → Type 0
InFree base pool i = (n : ℕ) × IsFree pool n × InBlock (base + n) i
