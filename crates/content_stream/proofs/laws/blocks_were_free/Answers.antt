use Rattle.content_stream.proofs.PlanLemmas.{planned_free}
use Rattle.content_stream.proofs.laws.blocks_were_free.Goals as goal

pub returns : goal.returns
returns c = planned_free
