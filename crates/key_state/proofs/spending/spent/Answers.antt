use Rattle.edge_board.proofs.RunLemmas.{touch}
use Rattle.key_state.proofs.spending.spent.Goals as goal

pub returns-clause-touches : goal.returns-clause-touches
returns-clause-touches g c = touch _ _ (g.met.B.Board.honest c.args.board.now) c.read.ensures.reads.effect
