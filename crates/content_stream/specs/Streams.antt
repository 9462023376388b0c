-- What a stream stands for: the octets that it was fed.
use Rattle.std.specs.Prelude.{◌≡◌, ℕ, List, drop, length, Option, Some, IsSome, IfSome}
use Rattle.edge_board.specs.Board.{View, Leaves}
use Rattle.sha2.specs.declared.Sha256.{Sha256}
use Rattle.sha2.specs.Hashers.{Holds256}
use Rattle.sha2.specs.Sha256.{sha256}
use Rattle.content_stream.specs.ImageBlocks.{IsStored, image_at}
use Rattle.package_attrs.specs.Image.{blocks_for}
use Rattle.content_stream.specs.Plans.{Plan, numbers_of}
use Rattle.content_stream.specs.declared.content_stream.ContentStream.{ContentStream}
use Rattle.content_stream.specs.declared.content_stream.Streamed.{Streamed}

-- what it is to do
abbrev pub plan_of : ContentStream → Plan
plan_of stream = record {
  content_size = stream.content_size;
  wrap_size = stream.wrap_size;
  base = stream.base;
  blocks = stream.blocks;
}

-- how many octets it was fed
abbrev pub fed_of : ContentStream → ℕ
fed_of stream = stream.fed

-- the hash of a content has taken these octets in, where one is kept
abbrev pub HoldsContent : Option Sha256 → List ℕ → Type 0
HoldsContent hash fed = IfSome hash (λ h. Holds256 h fed)

-- These octets were fed: the hashes have taken them in, and the blocks hold the image's.
pub record IsFed (told : Type 0) (stream : ContentStream) (fed cells : List ℕ) : Type 0 where
  pub count : length fed ≡ stream.fed
  pub content : HoldsContent stream.content fed
  pub image : Holds256 stream.image (drop stream.wrap_size fed)
  pub stored : told → IsSome stream.blocks
      → IsStored stream.base (numbers_of (plan_of stream)) (drop stream.wrap_size fed) cells

-- What came of a content: both digests, the image's length, and blocks that hold the image in every image of the
-- flash at the present moment.
pub record IsStreamed (told : Type 0) (base : ℕ) (content image : List ℕ) (v : View)
    (streamed : Streamed) : Type 0 where
  pub content_digest : streamed.content_digest ≡ sha256 content
  pub image_digest : streamed.image_digest ≡ sha256 image
  pub size : streamed.length ≡ length image
  pub enough : (numbers : List ℕ) → streamed.blocks ≡ Some numbers
      → length numbers ≡ blocks_for (length image)
  pub reads : told → (numbers : List ℕ) → streamed.blocks ≡ Some numbers → (left : List ℕ)
      → Leaves v left → image_at base numbers (length image) left ≡ image
