use Rattle.std.proofs.Common.{sym}
use Rattle.cms_signed.specs.Outline.{content_of}
use Rattle.item_intake.proofs.EndLemmas.{held_whole, has_streamed}
use Rattle.item_intake.proofs.intake.Intake.finish.Goals as goal

pub finish-requires : goal.finish-requires
finish-requires g c =
    let (start, item, h, sequence) = c.requires.some in
    let value = c.in-Some.ensures.value in
    let fits = held_whole g.B.Board.tells_cells g.B.Board.tells_moments start c.args.pool.now
    (g.B.Board.view c.args.board.now) c.args.self.inflow c.args.self.outline item c.in-Some.field-0-0 c.in-Some.size
    (sym value) (c.whole_item.ensures c.args.self.outline item sequence h.sees).0 h.held in
    record { some = (start, content_of c.args.self.outline.cut item, fits.0, fits.1) }

pub returns-in_ok-streamed-in-Some-clause-streamed : goal.returns-in_ok-streamed-in-Some-clause-streamed
returns-in_ok-streamed-in-Some-clause-streamed g c start item h sequence =
    let value = c.in-Some.ensures.value in
    let fits = held_whole g.B.Board.tells_cells g.B.Board.tells_moments start c.args.pool.now
    (g.B.Board.view c.args.board.now) c.args.self.inflow c.args.self.outline item c.in-Some.field-0-0 c.in-Some.size
    (sym value) (c.whole_item.ensures c.args.self.outline item sequence h.sees).0 h.held in
    has_streamed g.B.Board.tells_cells start.pool c.finish.new.pool (g.B.Board.view c.finish.new.board)
    c.args.self.outline.cut (content_of c.args.self.outline.cut item) c.in_ok-streamed-in-Some.streamed
    c.in-Some.field-0-0 c.in-Some.size (sym value)
    (c.in_ok-streamed-in-Some.ensures.holds start (content_of c.args.self.outline.cut item) fits.0 fits.1)
