use Rattle.std.proofs.Common.{◌≡◌}
use Rattle.lms_verify.proofs.TreeLemmas.{node_above}
use Rattle.lms_verify.proofs.tree.root_value.Given as goal

abbrev pub invariant-loop-i : goal.invariant-loop-i
invariant-loop-i l = l.value ≡ node_above l.id l.r l.path l.leaf l.i
