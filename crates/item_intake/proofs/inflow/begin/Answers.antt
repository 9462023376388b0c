use Rattle.std.proofs.Common.{◌∙◌}
use Rattle.item_intake.proofs.InflowLemmas.{streams_begun, gathered_whole}
use Rattle.item_intake.proofs.inflow.begin.Goals as goal

pub returns-clause-inflow : goal.returns-clause-inflow
returns-clause-inflow g c start content gathered room =
    streams_begun c.args.size start c.args.pool.now c.start_stream.new.pool (g.B.Board.view c.args.board.now).erased
    (g.B.Board.view c.start_stream.new.board) c.in_ok-stream.stream _ _ c.in_ok-stream.ensures.streams
    gathered.pool_is gathered.erased
    (gathered_whole c.args.front.now.items content c.args.piece.now c.deref.result.now c.min-n.result
    gathered.front_is (c.deref.ensures.value ∙ c.in_ok-extend_from_slice.ensures.items))
