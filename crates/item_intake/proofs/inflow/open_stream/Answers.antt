use Rattle.std.proofs.Common.{[], refl}
use Rattle.edge_board.proofs.RunLemmas.{touch_wider}
use Rattle.item_intake.specs.Inflows.{Start}
use Rattle.item_intake.proofs.InflowLemmas.{fed_told, streams_front}
use Rattle.item_intake.proofs.inflow.open_stream.Goals as goal

pub feed-requires-clause-lies : goal.feed-requires-clause-lies
feed-requires-clause-lies g c =
    c.blocks_lie_below.ensures 84 _ _ _ _ _ c.in_ok-stream.ensures.plan _ c.requires.lies

pub returns-in_err-feed-clause-touches : goal.returns-in_err-feed-clause-touches
returns-in_err-feed-clause-touches g c =
    touch_wider _ _ (λ told i inside. c.blocks_were_free.ensures 84 _ _ _ _ _ c.in_ok-stream.ensures.plan i inside)
    c.feed.ensures.touches

pub returns-clause-touches : goal.returns-clause-touches
returns-clause-touches g c =
    touch_wider _ _ (λ told i inside. c.blocks_were_free.ensures 84 _ _ _ _ _ c.in_ok-stream.ensures.plan i inside)
    c.feed.ensures.touches

pub returns-clause-streams : goal.returns-clause-streams
returns-clause-streams g c =
    let start : Start = record { pool = c.args.pool.now; erased = (g.B.Board.view c.args.board.now).erased } in
    streams_front c.args.size start c.new.new.pool (g.B.Board.view c.args.board.now) (g.B.Board.view c.feed.new.board)
    c.in_ok-stream.stream c.feed.new.stream c.args.front.now c.in_ok-stream.ensures.plan c.in_ok-stream.ensures.none
    c.requires.front c.feed.ensures.plan
    (c.in_ok-feed.ensures.fed [] (fed_told g.B.Board.tells_cells c.in_ok-stream.stream []
    (g.B.Board.view c.args.board.now).cells (c.in_ok-stream.ensures.fed (g.B.Board.view c.args.board.now).cells)))
    c.feed.ensures.touches.blocks refl c.requires.lies c.feed.ensures.erased c.in_ok-feed.ensures.least
