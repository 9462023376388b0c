use Rattle.judge_core.specs.Verdicts.{bench}
use Rattle.judge_core.specs.Views.{JudgesCut, AcceptsCut}
use Rattle.judge_core.proofs.CutLemmas.{accepts_cut}
use Rattle.judge_core.proofs.ResultLemmas.{if_ok}
use Rattle.judge_core.proofs.frame.judge_cut.Goals as goal

pub returns-clause-accepts : goal.returns-clause-accepts
returns-clause-accepts c =
    let b = bench c.args.owner.now c.args.state.now c.args.sequence c.args.at in
    if_ok (JudgesCut b c.args.frame.now c.args.cut) (AcceptsCut b c.args.frame.now c.args.cut) c.judge_any.result
    (accepts_cut c.accepted_is_admitted.ensures b c.args.frame.now c.args.cut) c.judge_any.ensures.judges
