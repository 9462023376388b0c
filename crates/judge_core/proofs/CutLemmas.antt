-- A verdict on an item without its content.
use Rattle.std.proofs.Common.{ℕ, List, Option, None, Some, ◌↔◌}
use Rattle.cms_signed.specs.Answer.{put_in}
use Rattle.judge_core.specs.declared.verdict.Cut.{Cut}
use Rattle.judge_core.specs.declared.verdict.CutVerdict.{CutVerdict}
use Rattle.judge_core.specs.declared.verdict.CutVerdict.TheVariants as cuts
use Rattle.judge_core.specs.Verdicts.{Bench, Verdict, Judges, IsAccepted, IsAdmitted}
use Rattle.judge_core.specs.Views.{cut_view, JudgesCut, IsAcceptedCut, AcceptsCut}

-- it accepts where it accepts with a content
same : (verdict : CutVerdict) (content image : List ℕ) {P : Type 0} → IsAccepted (cut_view content image verdict) ↔ P
    → IsAcceptedCut verdict ↔ P
same (cuts.Accept firmware key_id) content image is = is
same (cuts.Refuse number name) content image is = is

-- so it accepts exactly where the items are admitted
pub accepts_cut : (law : (b : Bench) (item : List ℕ) (verdict : Verdict) → Judges b item verdict
    → IsAccepted verdict ↔ IsAdmitted b item)
    (b : Bench) (frame : List ℕ) (cut : Option Cut) (verdict : CutVerdict) → JudgesCut b frame cut verdict
    → AcceptsCut b frame cut verdict
accepts_cut law b frame None verdict judges =
    same verdict judges.0 judges.1 (law b frame (cut_view judges.0 judges.1 verdict) judges.2)
accepts_cut law b frame (Some cut) verdict judges = λ content image of_cut.
    same verdict content image
    (law b (put_in frame (Some (cut.place, cut.length)) content) (cut_view content image verdict)
    (judges content image of_cut))
