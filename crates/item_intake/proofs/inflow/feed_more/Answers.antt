use Rattle.edge_board.proofs.RunLemmas.{touch_wider}
use Rattle.item_intake.proofs.InflowLemmas.{streams_more}
use Rattle.item_intake.proofs.inflow.feed_more.Goals as goal

pub feed-requires-clause-lies : goal.feed-requires-clause-lies
feed-requires-clause-lies g c =
    let (size, start, pool, content, s, room) = c.requires.some in
    c.blocks_lie_below.ensures 84 size _ start.pool pool _ s.plan _ s.lies

pub returns-in_err-feed-clause-touches : goal.returns-in_err-feed-clause-touches
returns-in_err-feed-clause-touches g c size start pool content s =
    touch_wider _ _ (λ told i inside. c.blocks_were_free.ensures 84 size _ start.pool pool _ s.plan i inside)
    c.feed.ensures.touches

pub returns-clause-touches : goal.returns-clause-touches
returns-clause-touches g c size start pool content s =
    touch_wider _ _ (λ told i inside. c.blocks_were_free.ensures 84 size _ start.pool pool _ s.plan i inside)
    c.feed.ensures.touches

pub returns-clause-streams : goal.returns-clause-streams
returns-clause-streams g c size start pool content s room =
    streams_more size start pool (g.B.Board.view c.args.board.now) (g.B.Board.view c.feed.new.board)
    c.args.stream.now c.feed.new.stream content s c.args.piece.now room c.feed.ensures.plan
    (c.in_ok-feed.ensures.fed content s.fed) c.feed.ensures.touches.blocks c.feed.ensures.erased
    c.in_ok-feed.ensures.least
