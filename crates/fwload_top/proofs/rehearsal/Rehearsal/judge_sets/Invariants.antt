use Rattle.std.proofs.Common.{length}
use Rattle.fwload_top.specs.Rehearsal.{JudgesFront}
use Rattle.fwload_top.proofs.rehearsal.Rehearsal.judge_sets.Given as goal

-- the sets that have been passed are judged
abbrev pub invariant-loop-contents : goal.invariant-loop-contents
invariant-loop-contents l = JudgesFront l.hardware l.fn.self l.fn.sets l.sets l.so_far

-- the octets that are left
abbrev pub decreases-loop-contents : goal.decreases-loop-contents
decreases-loop-contents l = length l.sets
