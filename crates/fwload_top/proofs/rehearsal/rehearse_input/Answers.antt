use Rattle.std.proofs.Common.{List, ℕ, not, ap, subst}
use Rattle.fwload_top.specs.Rehearsal.{JudgesFront}
use Rattle.fwload_top.proofs.RehearsalLemmas.{rehearsed}
use Rattle.fwload_top.proofs.rehearsal.rehearse_input.Goals as goal

pub returns : goal.returns
returns c =
    rehearsed c.args.at c.args.input.now c.judge_sets.new.sets c.module.result c.in_ok-begun.begun c.in_ok-judged.judged
    _ c.finish.result
    c.in_ok-begun.ensures.state c.in_ok-begun.ensures.lines c.in_ok-begun.ensures.refuses c.module.ensures
    (subst (λ (octets : List ℕ). JudgesFront c.module.result c.in_ok-begun.begun octets c.judge_sets.new.sets
    c.in_ok-judged.judged) c.new-sets.ensures.all c.in_ok-judged.ensures.front)
    c.in_ok-judged.ensures.ends (ap not c.at_end.ensures.end) c.finish.ensures.lines c.finish.ensures.refuses
