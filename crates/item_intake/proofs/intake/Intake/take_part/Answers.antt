use Rattle.std.proofs.Common.{ℕ, ◌+◌, List, take, length, arith, length-take}
use Rattle.cms_signed.specs.Outline.{content_of, added}
use Rattle.item_intake.proofs.IntakeLemmas.{held_next, fits_next, intake_next, intake_erased, rises_weaker, content_few}
use Rattle.item_intake.proofs.intake.Intake.take_part.Goals as goal

pub returns-in_err-taken-clause-erased : goal.returns-in_err-taken-clause-erased
returns-in_err-taken-clause-erased g c start item h =
    rises_weaker (length item) _ _ _ (omega arith)
    (intake_erased start c.args.pool.now (g.B.Board.view c.args.board.now) c.args.self.now item h)

pub put-requires : goal.put-requires
put-requires g c =
    let (start, item, h) = c.requires.some in
    let content : List ℕ = content_of c.args.self.now.outline.cut item in
    let held = held_next start c.args.pool.now (g.B.Board.view c.args.board.now) c.args.self.now item h
    c.outline_step.new.outline c.cut-cut.result c.outline_step.ensures.stays c.cut-cut.ensures.value in
    let t : List ℕ = take c.in_ok-taken.taken.n c.args.piece.now in
    let fits = fits_next start c.args.pool.now (g.B.Board.view c.args.board.now) c.args.self.now item h
    c.outline_step.new.outline t (added c.in_ok-taken.taken.part t) c.cut-cut.result c.cut-cut.ensures.value
    (c.in_ok-taken.ensures.content item h.sees) in
    record { some = (start, content, held, fits) }

pub returns-in_err-put-clause-touches : goal.returns-in_err-put-clause-touches
returns-in_err-put-clause-touches g c start item h =
    let content : List ℕ = content_of c.args.self.now.outline.cut item in
    let held = held_next start c.args.pool.now (g.B.Board.view c.args.board.now) c.args.self.now item h
    c.outline_step.new.outline c.cut-cut.result c.outline_step.ensures.stays c.cut-cut.ensures.value in
    c.put.ensures.touches start content held

pub returns-clause-touches : goal.returns-clause-touches
returns-clause-touches g c start item h =
    let content : List ℕ = content_of c.args.self.now.outline.cut item in
    let held = held_next start c.args.pool.now (g.B.Board.view c.args.board.now) c.args.self.now item h
    c.outline_step.new.outline c.cut-cut.result c.outline_step.ensures.stays c.cut-cut.ensures.value in
    c.put.ensures.touches start content held

pub returns-in_err-put-clause-erased : goal.returns-in_err-put-clause-erased
returns-in_err-put-clause-erased g c start item h =
    let content : List ℕ = content_of c.args.self.now.outline.cut item in
    let held = held_next start c.args.pool.now (g.B.Board.view c.args.board.now) c.args.self.now item h
    c.outline_step.new.outline c.cut-cut.result c.outline_step.ensures.stays c.cut-cut.ensures.value in
    rises_weaker (length content + length (take c.in_ok-taken.taken.n c.args.piece.now)) _ _ _
    (omega (
      arith,
      content_few c.args.self.now.outline.cut item,
      length-take c.in_ok-taken.taken.n c.args.piece.now,
    ))
    (c.put.ensures.erased start content held)

pub returns-clause-erased : goal.returns-clause-erased
returns-clause-erased g c start item h =
    let content : List ℕ = content_of c.args.self.now.outline.cut item in
    let held = held_next start c.args.pool.now (g.B.Board.view c.args.board.now) c.args.self.now item h
    c.outline_step.new.outline c.cut-cut.result c.outline_step.ensures.stays c.cut-cut.ensures.value in
    rises_weaker (length content + length (take c.in_ok-taken.taken.n c.args.piece.now)) _ _ _
    (omega (
      arith,
      content_few c.args.self.now.outline.cut item,
      length-take c.in_ok-taken.taken.n c.args.piece.now,
    ))
    (c.put.ensures.erased start content held)

pub returns-clause-intake : goal.returns-clause-intake
returns-clause-intake g c start item h =
    let content : List ℕ = content_of c.args.self.now.outline.cut item in
    let held = held_next start c.args.pool.now (g.B.Board.view c.args.board.now) c.args.self.now item h
    c.outline_step.new.outline c.cut-cut.result c.outline_step.ensures.stays c.cut-cut.ensures.value in
    let t : List ℕ = take c.in_ok-taken.taken.n c.args.piece.now in
    let fits = fits_next start c.args.pool.now (g.B.Board.view c.args.board.now) c.args.self.now item h
    c.outline_step.new.outline t (added c.in_ok-taken.taken.part t) c.cut-cut.result c.cut-cut.ensures.value
    (c.in_ok-taken.ensures.content item h.sees) in
    intake_next start c.args.pool.now (g.B.Board.view c.args.board.now) c.args.self.now item h c.outline_step.new.outline
    c.put.new.inflow t (added c.in_ok-taken.taken.part t) c.cut-cut.result c.put.new.pool
    (g.B.Board.view c.put.new.board) c.slice_is_octets.ensures (c.in_ok-taken.ensures.seen item h.sees)
    c.cut-cut.ensures.value (c.in_ok-taken.ensures.content item h.sees) (c.in_ok-put.ensures.held start content held fits)
