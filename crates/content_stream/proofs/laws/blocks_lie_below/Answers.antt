use Rattle.content_stream.proofs.PlanLemmas.{planned_lies}
use Rattle.content_stream.proofs.laws.blocks_lie_below.Goals as goal

pub returns : goal.returns
returns c = planned_lies
