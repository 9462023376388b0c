use Rattle.std.proofs.Common.{subst}
use Rattle.judge_core.specs.Verdicts.{bench, Judges}
use Rattle.judge_core.specs.Views.{verdict_view}
use Rattle.judge_core.proofs.frame.judge_whole.Goals as goal

pub returns-in-Accept : goal.returns-in-Accept
returns-in-Accept c = record {
  judges = (
    c.in-Accept.content.now,
    c.in-Accept.image.now,
    subst (λ v. Judges (bench c.args.owner.now c.args.state.now c.args.sequence c.args.at) c.args.item.now (verdict_view v))
        c.in-Accept.is c.in_ok-package.ensures.judges,
  );
}
