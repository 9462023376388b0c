use Rattle.judge_core.proofs.RefusalLemmas.{refusal_named}
use Rattle.judge_core.proofs.item_laws.refusals_have_their_names.Goals as goal

pub returns : goal.returns
returns c = record { named = refusal_named }
