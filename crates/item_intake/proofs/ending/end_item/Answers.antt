use Rattle.item_intake.proofs.ItemLemmas.{past_too_long, taken_all, held_item, ends_whole}
use Rattle.item_intake.proofs.ending.end_item.Goals as goal

pub returns-then-skips-clause-item : goal.returns-then-skips-clause-item
returns-then-skips-clause-item g c start octets left h ends =
    let s = ends_whole c.args.whole left octets c.if-not-whole.false ends in (
      s,
      past_too_long octets s (h.split.past c.if-skips.true),
      c.in_ok-abandon-2.ensures.pool start h.taking.seen h.taking.intake_is,
    )

pub returns-clause-item : goal.returns-clause-item
returns-clause-item g c start octets left h ends =
    let s = ends_whole c.args.whole left octets c.if-not-whole.false ends in
    let intake = taken_all g.B.Board.tells_cells g.B.Board.tells_moments start c.args.pool.now
    (g.B.Board.view c.args.board.now) c.args.reader.intake c.args.reader.skips octets c.if-skips.false h.taking in
    held_item g.B.Board.tells_cells g.B.Board.tells_moments start c.args.pool.now c.finish.new.pool
    (g.B.Board.view c.args.board.now) (g.B.Board.view c.finish.new.board) c.args.reader.intake c.in_ok-held.held octets
    intake s (h.split.kept c.if-skips.false) c.in_ok-held.ensures.outline
    (c.in_ok-held.ensures.streamed start octets intake s)
