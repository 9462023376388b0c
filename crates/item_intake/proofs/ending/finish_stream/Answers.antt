use Rattle.edge_board.proofs.RunLemmas.{touch_wider}
use Rattle.item_intake.proofs.EndLemmas.{whole_wrap, holds_content}
use Rattle.item_intake.proofs.ending.finish_stream.Goals as goal

pub finish-requires-clause-lies : goal.finish-requires-clause-lies
finish-requires-clause-lies g c =
    let (size, start, pool, content, s, whole) = c.requires.some in
    c.blocks_lie_below.ensures 84 size _ start.pool pool _ s.plan _ s.lies

pub returns-clause-holds : goal.returns-clause-holds
returns-clause-holds g c size start pool content s whole =
    let v = g.B.Board.view c.args.board.now in
    let w = g.B.Board.view c.finish.new.board in
    let wrap = whole_wrap size start pool v w c.args.stream content s whole in
    let image = c.each_content_has_an_image.ensures.rest content _ wrap in
    holds_content size start pool v w c.args.stream content s whole c.in_ok-streamed.streamed image
    (c.in_ok-streamed.ensures.streamed content _ s.fed wrap image) c.in_ok-streamed.ensures.blocks

pub returns-in_err-streamed-clause-touches : goal.returns-in_err-streamed-clause-touches
returns-in_err-streamed-clause-touches g c size start pool content s =
    touch_wider _ _ (λ told i nowhere. absurd nowhere) c.finish.ensures.touches

pub returns-clause-touches : goal.returns-clause-touches
returns-clause-touches g c size start pool content s =
    touch_wider _ _ (λ told i nowhere. absurd nowhere) c.finish.ensures.touches
