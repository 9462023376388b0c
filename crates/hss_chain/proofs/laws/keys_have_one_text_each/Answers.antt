use Rattle.hss_chain.proofs.KeyLemmas.{one_text_each}
use Rattle.hss_chain.proofs.laws.keys_have_one_text_each.Goals as goal

pub returns : goal.returns
returns c = one_text_each
