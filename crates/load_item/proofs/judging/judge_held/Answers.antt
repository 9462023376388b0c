use Rattle.std.proofs.Common.{ℕ, List, sym, subst}
use Rattle.std.specs.Prelude.{IfSome}
use Rattle.cms_signed.specs.Cut.{HasCut}
use Rattle.judge_core.specs.Verdicts.{bench}
use Rattle.judge_core.specs.Views.{gap_of}
use Rattle.load_item.proofs.JudgedLemmas.{head_there, ok_judges}
use Rattle.load_item.proofs.judging.judge_held.Goals as goal

pub judge_cut-requires-clause-head : goal.judge_cut-requires-clause-head
judge_cut-requires-clause-head c =
    let (octets, h) = c.requires.some in
    subst (λ (l : List ℕ). IfSome (gap_of c.cut_of.result) (λ gap. HasCut l gap.0 gap.1)) (sym c.frame.ensures.value)
    (head_there c.frame_has_cut.ensures c.args.outline.now c.args.streamed.now octets c.cut_of.result h.sees c.cut_of.ensures.cut)

pub returns : goal.returns
returns c = record {
  judges = λ octets h.
      ok_judges c.whole_item.ensures (bench c.args.owner.now c.args.state.now c.args.sequence c.args.at) c.args.outline.now
      c.args.streamed.now octets c.frame.result.now c.cut_of.result c.judge_cut.result h c.cut_of.ensures.cut
      c.frame.ensures.value c.judge_cut.ensures.judges;
}
