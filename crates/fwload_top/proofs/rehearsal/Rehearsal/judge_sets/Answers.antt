use Rattle.fwload_top.proofs.RehearsalLemmas.{judged_none, judged_more}
use Rattle.fwload_top.proofs.rehearsal.Rehearsal.judge_sets.Goals as goal

pub loop-contents-init : goal.loop-contents-init
loop-contents-init c = judged_none c.args.hardware.now c.args.self c.args.sets.now

pub loop-contents-preserved : goal.loop-contents-preserved
loop-contents-preserved c =
    judged_more c.args.hardware.now c.args.self c.loop-contents.so_far c.in_ok-so_far.so_far c.args.sets.now
    c.loop-contents.sets c.tagged.new.self c.in-Some.contents.now
    c.loop-contents.invariant c.in-Some.ensures.element.0 c.in-Some.ensures.element.1 c.in_ok-so_far.ensures
