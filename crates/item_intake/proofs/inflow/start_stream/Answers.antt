use Rattle.edge_board.proofs.RunLemmas.{touch_then}
use Rattle.item_intake.specs.Inflows.{Start}
use Rattle.item_intake.proofs.inflow.start_stream.Goals as goal

pub feed_more-requires : goal.feed_more-requires
feed_more-requires g c =
    let start : Start = record { pool = c.args.pool.now; erased = (g.B.Board.view c.args.board.now).erased } in
    record { some = (c.args.size, start, c.open_stream.new.pool, c.args.front.now, c.in_ok-stream.ensures.streams, c.requires.room) }

pub returns-in_err-feed_more-clause-touches : goal.returns-in_err-feed_more-clause-touches
returns-in_err-feed_more-clause-touches g c =
    let start : Start = record { pool = c.args.pool.now; erased = (g.B.Board.view c.args.board.now).erased } in
    touch_then _ _ _ c.open_stream.ensures.touches
    (c.feed_more.ensures.touches c.args.size start c.open_stream.new.pool c.args.front.now c.in_ok-stream.ensures.streams)

pub returns-clause-touches : goal.returns-clause-touches
returns-clause-touches g c =
    let start : Start = record { pool = c.args.pool.now; erased = (g.B.Board.view c.args.board.now).erased } in
    touch_then _ _ _ c.open_stream.ensures.touches
    (c.feed_more.ensures.touches c.args.size start c.open_stream.new.pool c.args.front.now c.in_ok-stream.ensures.streams)

pub returns-in_err-feed_more-clause-erased : goal.returns-in_err-feed_more-clause-erased
returns-in_err-feed_more-clause-erased g c =
    let start : Start = record { pool = c.args.pool.now; erased = (g.B.Board.view c.args.board.now).erased } in
    c.feed_more.ensures.erased c.args.size start c.open_stream.new.pool c.args.front.now c.in_ok-stream.ensures.streams

pub returns-clause-erased : goal.returns-clause-erased
returns-clause-erased g c =
    let start : Start = record { pool = c.args.pool.now; erased = (g.B.Board.view c.args.board.now).erased } in
    c.feed_more.ensures.erased c.args.size start c.open_stream.new.pool c.args.front.now c.in_ok-stream.ensures.streams

pub returns-clause-streams : goal.returns-clause-streams
returns-clause-streams g c =
    let start : Start = record { pool = c.args.pool.now; erased = (g.B.Board.view c.args.board.now).erased } in
    c.in_ok-feed_more.ensures.streams c.args.size start c.open_stream.new.pool c.args.front.now
    c.in_ok-stream.ensures.streams c.requires.room
