use Rattle.edge_board.proofs.SureCalls.{sure_send}
use Rattle.edge_board.proofs.sure_board.SureBoardBoard.send.Goals as goal

pub returns-clause-sends : goal.returns-clause-sends
returns-clause-sends c = sure_send c.args.self.now c.args.bytes.now _ c.update.ensures
