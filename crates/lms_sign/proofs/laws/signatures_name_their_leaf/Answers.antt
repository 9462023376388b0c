use Rattle.lms_sign.proofs.KeyLemmas.{one_leaf_each}
use Rattle.lms_sign.proofs.laws.signatures_name_their_leaf.Goals as goal

pub returns : goal.returns
returns c = one_leaf_each
