use Rattle.item_intake.proofs.InflowLemmas.{inflow_streams, inflow_gathered}
use Rattle.item_intake.proofs.inflow.Inflow.take.Goals as goal

pub returns-in-Some-clause-touches : goal.returns-in-Some-clause-touches
returns-in-Some-clause-touches g c start content h =
    c.feed_more.ensures.touches c.args.size start c.args.pool.now content
    (inflow_streams g.B.Board.tells_cells g.B.Board.tells_moments c.args.size start c.args.pool.now (g.B.Board.view c.args.board.now) c.args.self.now content
    c.in-Some.stream c.in-Some.is h)

pub returns-in-Some-clause-erased : goal.returns-in-Some-clause-erased
returns-in-Some-clause-erased g c start content h =
    c.feed_more.ensures.erased c.args.size start c.args.pool.now content
    (inflow_streams g.B.Board.tells_cells g.B.Board.tells_moments c.args.size start c.args.pool.now (g.B.Board.view c.args.board.now) c.args.self.now content
    c.in-Some.stream c.in-Some.is h)

pub returns-in_err-self-clause-erased : goal.returns-in_err-self-clause-erased
returns-in_err-self-clause-erased g c start content h =
    c.begin.ensures.erased start content
    (inflow_gathered g.B.Board.tells_cells g.B.Board.tells_moments c.args.size start c.args.pool.now (g.B.Board.view c.args.board.now) c.args.self.now content
    c.in_default.is h)

pub returns-clause-erased : goal.returns-clause-erased
returns-clause-erased g c start content h =
    c.begin.ensures.erased start content
    (inflow_gathered g.B.Board.tells_cells g.B.Board.tells_moments c.args.size start c.args.pool.now (g.B.Board.view c.args.board.now) c.args.self.now content
    c.in_default.is h)
