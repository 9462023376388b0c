use Rattle.std.proofs.Common.{◌≡◌, ℕ, [], sym, append-nil, ◌∙◌, ◌==◌, true, false, length, arith}
use Rattle.std.proofs.lemmas.List.{nil_from_length}
use Rattle.std.proofs.lemmas.Bool.Decides.{nat_tests}
use Rattle.item_intake.specs.Turns.{place_of, EndsItem, AfterTurn, AfterFault}
use Rattle.item_intake.proofs.TurnLemmas.{err_fault, fill_failed, read_none, keeps_consumes, after_then}
use Rattle.item_intake.proofs.turns.take_turn.Goals as goal

is_zero : (n : ℕ) → true ≡ (n == 0) → n ≡ 0
is_zero n is = grind (arith, nat_tests)

pub returns-in_err-fill-clause-turn : goal.returns-in_err-fill-clause-turn
returns-in_err-fill-clause-turn g c start item h goes =
    let v = g.B.Board.view c.args.board.now in
    let from = place_of c.args.input.now (g.S.Source.supply c.args.source.now).left in
    let to = place_of c.fill.new.self (g.S.Source.supply c.fill.new.source).left in
    err_fault c.from_residual.result _
    (AfterTurn g.B.Board.tells_cells g.B.Board.tells_moments start c.args.pool.now v c.args.reader.now item from to)
    (AfterFault g.B.Board.tells_cells g.B.Board.tells_moments start c.args.pool.now v c.args.reader.now item from to)
    c.from_residual.ensures.1
    (fill_failed g.B.Board.tells_cells g.B.Board.tells_moments start c.args.pool.now v c.args.reader.now item
    c.args.input.now c.fill.new.self (g.S.Source.supply c.args.source.now) (g.S.Source.supply c.fill.new.source)
    c.in_err-fill.field-0.0 c.in_err-fill.ensures.fails h goes)

pub returns-then-is_empty-clause-turn : goal.returns-then-is_empty-clause-turn
returns-then-is_empty-clause-turn g c start item h goes =
    let from = place_of c.args.input.now (g.S.Source.supply c.args.source.now).left in
    let to = place_of c.fill.new.self (g.S.Source.supply c.fill.new.source).left in
    read_none g.B.Board.tells_cells g.B.Board.tells_moments start c.args.pool.now (g.B.Board.view c.args.board.now)
    c.args.reader.now item from to (EndsItem false to.0) h (keeps_consumes from.0 to.0 c.in_ok-fill.ensures.kept)
    c.in_ok-fill.ensures.passed (
      goes,
      c.in_ok-fill.ensures.end (sym c.octets.ensures.octets
          ∙ nil_from_length c.octets.result.now (is_zero (length c.octets.result.now) c.if-is_empty.ensures)),
    )

pub returns-then-is_empty-clause-stops : goal.returns-then-is_empty-clause-stops
returns-then-is_empty-clause-stops g c is =
    sym c.octets.ensures.octets
    ∙ nil_from_length c.octets.result.now (is_zero (length c.octets.result.now) c.if-is_empty.ensures)

pub returns-clause-turn : goal.returns-clause-turn
returns-clause-turn g c start item h goes =
    let from = place_of c.args.input.now (g.S.Source.supply c.args.source.now).left in
    let middle = place_of c.fill.new.self (g.S.Source.supply c.fill.new.source).left in
    let to = place_of c.take_buffered.new.input (g.S.Source.supply c.fill.new.source).left in
    after_then g.B.Board.tells_cells g.B.Board.tells_moments start c.take_buffered.new.pool
    (g.B.Board.view c.take_buffered.new.board) c.take_buffered.new.reader item [] item from middle to
    (sym (append-nil item)) (keeps_consumes from.0 middle.0 c.in_ok-fill.ensures.kept)
    (omega (arith, c.in_ok-fill.ensures.passed)) c.take_buffered.result
    (c.take_buffered.ensures.turn start item (g.S.Source.supply c.fill.new.source).left h goes)
