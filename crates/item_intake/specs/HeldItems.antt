-- An item that has come whole, as it is kept: its outline (RFC 5652, section 5), and what came of its content.
use Rattle.std.specs.Prelude.{◌≡◌, ℕ, ◌≤◌, List, Bool, length, Option, Some, None}
use Rattle.edge_board.specs.Board.{View}
use Rattle.der_core.specs.Element.{AreOctets}
use Rattle.der_core.specs.Items.{IsSequence}
use Rattle.der_core.specs.Progress.{Declares}
use Rattle.package_attrs.specs.Image.{IsImage, blocks_for}
use Rattle.content_stream.specs.Plans.{TakesBlocks}
use Rattle.content_stream.specs.Streams.{IsStreamed}
use Rattle.content_stream.specs.declared.content_stream.Streamed.{Streamed}
use Rattle.cms_signed.specs.Outline.{Sees, content_of}
use Rattle.judge_core.specs.Conditions.{most_contents}
use Rattle.item_intake.specs.declared.item.Held.{Held}

-- A content has come whole: both digests and the image's length are known, and the image stands in blocks that were free,
-- where enough were.
pub record HoldsContent (told : Type 0) (before now : List Bool) (v : View) (content : List ℕ) (streamed : Streamed) :
    Type 0 where
  pub image : List ℕ
  pub image_is : IsImage content image
  pub streamed_is : IsStreamed told 84 content image v streamed
  pub taken : TakesBlocks (blocks_for (length image)) before now streamed.blocks

-- what has come of an item's content: of an item without one the pool is as it was
abbrev pub HasStreamed : Type 0 → List Bool → List Bool → View → Option (ℕ × ℕ) → List ℕ → Option Streamed → Type 0
HasStreamed told before now v None content None = now ≡ before
HasStreamed told before now v (Some cut) content (Some streamed) = HoldsContent told before now v content streamed
HasStreamed told before now v None content (Some streamed) = ⊥
HasStreamed told before now v (Some cut) content None = ⊥

-- The item is a whole SEQUENCE that isn't too long: what is kept of it is its outline and what came of its content.
pub record IsHeldItem (told : Type 0) (before now : List Bool) (v : View) (held : Held) (octets : List ℕ) : Type 0 where
  pub sequence : IsSequence octets
  pub are : AreOctets octets
  pub kept : (size : ℕ) → Declares octets size → size ≤ most_contents
  pub sees : Sees held.outline octets
  pub streamed : HasStreamed told before now v held.outline.cut (content_of held.outline.cut octets) held.streamed
