use Rattle.edge_board.proofs.SureCalls.{sure_sync}
use Rattle.edge_board.proofs.sure_board.SureBoardBoard.sync.Goals as goal

pub returns-clause-syncs : goal.returns-clause-syncs
returns-clause-syncs c = sure_sync c.args.self.now _ _ c.clear_flags.ensures
