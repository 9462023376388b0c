-- The verdict on an item of which the frame is kept, and of its content what its stream has told.
use Rattle.std.specs.Prelude.{◌≡◌, ℕ, List, length, Option, Some, None}
use Rattle.sha2.specs.Sha256.{sha256}
use Rattle.der_core.specs.Element.{AreOctets}
use Rattle.der_core.specs.Items.{IsSequence}
use Rattle.package_attrs.specs.Image.{IsImage}
use Rattle.content_stream.specs.declared.content_stream.Streamed.{Streamed}
use Rattle.cms_signed.specs.Outline.{Seen, Sees, content_of}
use Rattle.judge_core.specs.declared.verdict.Cut.{Cut}
use Rattle.judge_core.specs.declared.verdict.CutVerdict.{CutVerdict}
use Rattle.judge_core.specs.Verdicts.{Bench, Judges}
use Rattle.judge_core.specs.Views.{cut_view}

-- what came of a content: both digests, and its image's length (RFC 4108, section 2.1.5)
pub record IsContentOf (content image : List ℕ) (streamed : Streamed) : Type 0 where
  pub content_digest : streamed.content_digest ≡ sha256 content
  pub image_digest : streamed.image_digest ≡ sha256 image
  pub size : streamed.length ≡ length image
  pub image_is : IsImage content image

-- what is known of a content, where the item has one
abbrev pub KnowsContent : Option (ℕ × ℕ) → List ℕ → Option Streamed → Type 0
KnowsContent None content None = Unit {0}
KnowsContent (Some cut) content (Some streamed) = (image : List ℕ) × IsContentOf content image streamed
KnowsContent None content (Some streamed) = ⊥
KnowsContent (Some cut) content None = ⊥

-- This is the outline of a whole item, and what came of its content.
pub record IsOutlineOf (outline : Seen) (streamed : Option Streamed) (octets : List ℕ) : Type 0 where
  pub sequence : IsSequence octets
  pub are : AreOctets octets
  pub sees : Sees outline octets
  pub knows : KnowsContent outline.cut (content_of outline.cut octets) streamed

-- the cut by which the item is judged
abbrev pub IsCutOf : Option (ℕ × ℕ) → Option Streamed → Option Cut → Type 0
IsCutOf None streamed result = result ≡ None
IsCutOf (Some cut) None result = result ≡ None
IsCutOf (Some cut) (Some streamed) result =
    result ≡ Some (record { place = cut.0; length = cut.1; digest = streamed.content_digest; image = streamed.length })

-- where the content came by itself, the verdict is on this content, and on the image in it
abbrev pub MatchesContent : Option (ℕ × ℕ) → List ℕ → List ℕ → List ℕ → Option Streamed → Type 0
MatchesContent None held content image streamed = Unit {0}
MatchesContent (Some cut) held content image None = ⊥
MatchesContent (Some cut) held content image (Some streamed) = (content ≡ held) × IsContentOf content image streamed

-- The verdict is that on the whole item.
pub record JudgesHeld (b : Bench) (outline : Seen) (streamed : Option Streamed) (octets : List ℕ) (verdict : CutVerdict) :
    Type 0 where
  pub content : List ℕ
  pub image : List ℕ
  pub judges : Judges b octets (cut_view content image verdict)
  pub matches : MatchesContent outline.cut (content_of outline.cut octets) content image streamed
