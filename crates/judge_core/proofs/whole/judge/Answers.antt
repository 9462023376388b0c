use Rattle.std.proofs.Common.{◌↔◌}
use Rattle.judge_core.specs.Verdicts.{bench, Judges, IsAccepted, IsAdmitted}
use Rattle.judge_core.specs.Views.{verdict_view}
use Rattle.judge_core.proofs.ResultLemmas.{if_ok}
use Rattle.judge_core.proofs.whole.judge.Goals as goal

pub returns-clause-accepts : goal.returns-clause-accepts
returns-clause-accepts c =
    let b = bench c.args.owner.now c.args.state.now c.args.sequence c.args.at in
    if_ok (λ verdict. Judges b c.args.item.now (verdict_view verdict))
    (λ verdict. IsAccepted (verdict_view verdict) ↔ IsAdmitted b c.args.item.now) c.judge_item.result
    (λ verdict judges. c.accepted_is_admitted.ensures b c.args.item.now (verdict_view verdict) judges)
    c.judge_item.ensures.judges
