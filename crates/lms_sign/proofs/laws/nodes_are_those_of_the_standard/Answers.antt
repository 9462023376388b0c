use Rattle.lms_sign.proofs.TreeLemmas.{is_tree}
use Rattle.lms_sign.proofs.laws.nodes_are_those_of_the_standard.Goals as goal

pub returns : goal.returns
returns c = is_tree
