-- A content on its way into free blocks.
use Rattle.std.specs.Prelude.{◌≡◌, ℕ, ◌+◌, ◌<◌, ◌≤◌, List, Bool, length, min, take, IsSome, MatchOption}
use Rattle.edge_board.specs.Board.{View, IsSettled}
use Rattle.content_stream.specs.ImageBlocks.{RisesTo, RisesBy}
use Rattle.content_stream.specs.Plans.{IsPlanned, blocks_begun}
use Rattle.content_stream.specs.Streams.{IsFed, plan_of}
use Rattle.content_stream.specs.declared.content_stream.ContentStream.{ContentStream}
use Rattle.item_intake.specs.declared.inflow.Inflow.{Inflow}

-- what stood when the item began: the pool, and how many blocks had been erased
pub record Start : Type 0 where
  pub pool : List Bool
  pub erased : ℕ

-- a count has risen by so many at most
abbrev pub RisesAtMost : ℕ → ℕ → ℕ → Type 0
RisesAtMost n before now = RisesTo 0 n before now

-- The content's first octets are gathered, and nothing was done yet.
pub record Gathered (told : Type 0) (size : ℕ) (start : Start) (pool : List Bool) (v : View) (front content : List ℕ) :
    Type 0 where
  pub front_is : front ≡ content
  pub few : 0 < length content → length content < min 6 size
  pub pool_is : pool ≡ start.pool
  pub settled : told → IsSettled v
  pub erased : v.erased ≡ start.erased
  pub lies : 84 + length start.pool ≤ v.blocks

-- These octets of a content of so many were fed to a stream.
pub record Streams (told moments : Type 0) (size : ℕ) (start : Start) (pool : List Bool) (v : View)
    (stream : ContentStream) (content : List ℕ) : Type 0 where
  pub fed : IsFed told stream content v.cells
  pub plan : IsPlanned 84 size (take 6 content) start.pool pool (plan_of stream)
  pub begun : min 6 size ≤ length content
  pub within : length content ≤ size
  pub most : RisesTo 0 (blocks_begun (plan_of stream) (length content)) start.erased v.erased
  pub least : moments → IsSome (plan_of stream).blocks
      → RisesBy 0 (blocks_begun (plan_of stream) (length content)) start.erased v.erased
  pub lies : 84 + length start.pool ≤ v.blocks

-- these octets of a content of so many have come
abbrev pub IsInflow : Type 0 → Type 0 → ℕ → Start → List Bool → View → Inflow → List ℕ → Type 0
IsInflow told moments size start pool v inflow content = MatchOption inflow.stream
    (Gathered told size start pool v inflow.front.items content)
    (λ stream. Streams told moments size start pool v stream content)
