-- The answers of the code, as verdicts, and what is known of a content that isn't there.
use Rattle.std.specs.Prelude.{◌↔◌, ◌≡◌, ℕ, List, length, Option, Some, None}
use Rattle.sha2.specs.Sha256.{sha256}
use Rattle.der_core.specs.Element.{AreOctets}
use Rattle.cms_signed.specs.Answer.{put_in}
use Rattle.package_attrs.specs.Description.{description}
use Rattle.package_attrs.specs.Image.{IsImage}
use Rattle.judge_core.specs.declared.verdict.Verdict.{Verdict as Found}
use Rattle.judge_core.specs.declared.verdict.Verdict.TheVariants as found
use Rattle.judge_core.specs.declared.verdict.CutVerdict.{CutVerdict}
use Rattle.judge_core.specs.declared.verdict.CutVerdict.TheVariants as cuts
use Rattle.judge_core.specs.declared.verdict.Cut.{Cut}
use Rattle.judge_core.specs.Verdicts.{Bench, Verdict, accepts, refuses, Judges, IsAdmitted}

-- a verdict on a whole item
abbrev pub verdict_view : Found → Verdict
verdict_view (found.Accept firmware content image anchor_key_id) =
    accepts (description firmware) content.now image.now anchor_key_id
verdict_view (found.Refuse condition name) = refuses condition name

-- a verdict on an item that has this content, and in it this image
abbrev pub cut_view : List ℕ → List ℕ → CutVerdict → Verdict
cut_view content image (cuts.Accept firmware anchor_key_id) =
    accepts (description firmware) content image anchor_key_id
cut_view content image (cuts.Refuse condition name) = refuses condition name

-- where the content is cut out, and how many octets it has
abbrev pub gap_of : Option Cut → Option (ℕ × ℕ)
gap_of None = None
gap_of (Some cut) = Some (cut.place, cut.length)

-- the content is one of which the cut tells, and this is the image in it
pub record IsCutContent (cut : Cut) (content image : List ℕ) : Type 0 where
  pub octets : AreOctets content
  pub count : length content ≡ cut.length
  pub digest : cut.digest ≡ sha256 content
  pub image_is : IsImage content image
  pub size : length image ≡ cut.image

-- The verdict is that on each item which is the frame with a content put in of which the cut tells; without a cut the
-- frame is the item.
abbrev pub JudgesCut : Bench → List ℕ → Option Cut → CutVerdict → Type 0
JudgesCut b frame None verdict =
    (content : List ℕ) × (image : List ℕ) × Judges b frame (cut_view content image verdict)
JudgesCut b frame (Some cut) verdict =
    (content image : List ℕ) → IsCutContent cut content image
    → Judges b (put_in frame (Some (cut.place, cut.length)) content) (cut_view content image verdict)

-- a verdict on an item without its content accepts
abbrev pub IsAcceptedCut : CutVerdict → Type 0
IsAcceptedCut (cuts.Accept firmware anchor_key_id) = Unit {0}
IsAcceptedCut (cuts.Refuse condition name) = ⊥

-- it accepts exactly where each such item is admitted
abbrev pub AcceptsCut : Bench → List ℕ → Option Cut → CutVerdict → Type 0
AcceptsCut b frame None verdict = IsAcceptedCut verdict ↔ IsAdmitted b frame
AcceptsCut b frame (Some cut) verdict =
    (content image : List ℕ) → IsCutContent cut content image
    → IsAcceptedCut verdict ↔ IsAdmitted b (put_in frame (Some (cut.place, cut.length)) content)
