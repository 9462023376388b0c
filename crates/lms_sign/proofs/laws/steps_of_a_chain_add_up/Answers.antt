use Rattle.lms_sign.proofs.ChainLemmas.{chain_after_more}
use Rattle.lms_sign.proofs.laws.steps_of_a_chain_add_up.Goals as goal

pub returns : goal.returns
returns c = chain_after_more
