use Rattle.std.proofs.Common.{◌++◌, subst, ◌∙◌, refl, arith}
use Rattle.std.proofs.KnownBytes.{Consumes-nil}
use Rattle.edge_board.proofs.RunLemmas.{touch_then, touch_none}
use Rattle.item_intake.specs.declared.turns.Turn.{Turn}
use Rattle.item_intake.specs.Turns.{HasRead, EndsItem, AfterTurn, AfterFault, GoesOn, place_of}
use Rattle.item_intake.proofs.TurnLemmas.{read_none, turn_then, fault_then, err_fault}
use Rattle.item_intake.proofs.turns.read_turns.Goals as goal

pub loop-init : goal.loop-init
loop-init g c = record {
  read = λ start item h goes.
      let from = place_of c.args.input.now (g.S.Source.supply c.args.source.now).left in
      read_none g.B.Board.tells_cells g.B.Board.tells_moments start c.args.pool.now (g.B.Board.view c.args.board.now)
      c.args.reader.now item from from GoesOn h (Consumes-nil from.0) refl goes;
  touches = λ start item h goes. touch_none (g.B.Board.view c.args.board.now) (g.met.B.Board.honest c.args.board.now);
  later = omega arith;
  counted = λ small. omega arith;
  source = refl;
  device = refl;
}

pub take_turn-requires : goal.take_turn-requires
take_turn-requires g c =
    let (start, item, h, goes) = c.requires.reading in
    let r = c.loop.invariant.read start item h goes in
    record { reading = (start, item ++ r.part, r.reading, r.and) }

pub returns-in_err-take_turn-clause-touches : goal.returns-in_err-take_turn-clause-touches
returns-in_err-take_turn-clause-touches g c start item h goes =
    let r = c.loop.invariant.read start item h goes in
    touch_then _ _ _ (c.loop.invariant.touches start item h goes)
    (c.take_turn.ensures.touches start (item ++ r.part) r.reading)

pub returns-in-Ends-clause-touches : goal.returns-in-Ends-clause-touches
returns-in-Ends-clause-touches g c start item h goes =
    let r = c.loop.invariant.read start item h goes in
    touch_then _ _ _ (c.loop.invariant.touches start item h goes)
    (c.take_turn.ensures.touches start (item ++ r.part) r.reading)

pub returns-in-Stops-clause-touches : goal.returns-in-Stops-clause-touches
returns-in-Stops-clause-touches g c start item h goes =
    let r = c.loop.invariant.read start item h goes in
    touch_then _ _ _ (c.loop.invariant.touches start item h goes)
    (c.take_turn.ensures.touches start (item ++ r.part) r.reading)

pub returns-in-Ends-clause-read : goal.returns-in-Ends-clause-read
returns-in-Ends-clause-read g c start item h goes =
    let from = place_of c.args.input.now (g.S.Source.supply c.args.source.now).left in
    let middle = place_of c.loop.input (g.S.Source.supply c.loop.source).left in
    let to = place_of c.take_turn.new.input (g.S.Source.supply c.take_turn.new.source).left in
    let w = g.B.Board.view c.take_turn.new.board in
    let r = c.loop.invariant.read start item h goes in
    subst (λ (t : Turn). AfterTurn g.B.Board.tells_cells g.B.Board.tells_moments start c.take_turn.new.pool w
    c.take_turn.new.reader item from to t) c.in-Ends.is
    (turn_then g.B.Board.tells_cells g.B.Board.tells_moments start c.take_turn.new.pool w c.take_turn.new.reader item
    r.part (item ++ r.part) from middle to refl r.text r.passed_is c.in_ok-take_turn.field-0
    (c.in_ok-take_turn.ensures.turn start (item ++ r.part) r.reading r.and))

pub returns-in-Stops-clause-read : goal.returns-in-Stops-clause-read
returns-in-Stops-clause-read g c start item h goes =
    let from = place_of c.args.input.now (g.S.Source.supply c.args.source.now).left in
    let middle = place_of c.loop.input (g.S.Source.supply c.loop.source).left in
    let to = place_of c.take_turn.new.input (g.S.Source.supply c.take_turn.new.source).left in
    let w = g.B.Board.view c.take_turn.new.board in
    let r = c.loop.invariant.read start item h goes in
    subst (λ (t : Turn). AfterTurn g.B.Board.tells_cells g.B.Board.tells_moments start c.take_turn.new.pool w
    c.take_turn.new.reader item from to t) c.in-Stops.is
    (turn_then g.B.Board.tells_cells g.B.Board.tells_moments start c.take_turn.new.pool w c.take_turn.new.reader item
    r.part (item ++ r.part) from middle to refl r.text r.passed_is c.in_ok-take_turn.field-0
    (c.in_ok-take_turn.ensures.turn start (item ++ r.part) r.reading r.and))

pub loop-preserved : goal.loop-preserved
loop-preserved g c = record {
  read = λ start item h goes.
      let from = place_of c.args.input.now (g.S.Source.supply c.args.source.now).left in
      let middle = place_of c.loop.input (g.S.Source.supply c.loop.source).left in
      let to = place_of c.take_turn.new.input (g.S.Source.supply c.take_turn.new.source).left in
      let w = g.B.Board.view c.take_turn.new.board in
      let r = c.loop.invariant.read start item h goes in
      subst (λ (t : Turn). AfterTurn g.B.Board.tells_cells g.B.Board.tells_moments start c.take_turn.new.pool w
      c.take_turn.new.reader item from to t) c.in-Goes.is
      (turn_then g.B.Board.tells_cells g.B.Board.tells_moments start c.take_turn.new.pool w c.take_turn.new.reader item
      r.part (item ++ r.part) from middle to refl r.text r.passed_is c.in_ok-take_turn.field-0
      (c.in_ok-take_turn.ensures.turn start (item ++ r.part) r.reading r.and));
  touches = λ start item h goes.
      let r = c.loop.invariant.read start item h goes in
      touch_then _ _ _ (c.loop.invariant.touches start item h goes)
      (c.take_turn.ensures.touches start (item ++ r.part) r.reading);
  later = omega (arith, c.loop.invariant.later, c.take_turn.ensures.later);
  counted = λ small. omega (
    arith,
    c.in_ok-take_turn.ensures.counted small,
    c.take_turn.ensures.later,
    c.loop.invariant.counted (omega (arith, c.in_ok-take_turn.ensures.counted small, c.take_turn.ensures.later)),
  );
  source = c.in_ok-take_turn.ensures.source.calm (λ e. cc) ∙ c.loop.invariant.source;
  device = c.in_ok-take_turn.ensures.device.calm (λ e. cc) ∙ c.loop.invariant.device;
}

pub returns-in_err-take_turn-clause-read : goal.returns-in_err-take_turn-clause-read
returns-in_err-take_turn-clause-read g c start item h goes =
    let from = place_of c.args.input.now (g.S.Source.supply c.args.source.now).left in
    let middle = place_of c.loop.input (g.S.Source.supply c.loop.source).left in
    let to = place_of c.take_turn.new.input (g.S.Source.supply c.take_turn.new.source).left in
    let w = g.B.Board.view c.take_turn.new.board in
    let r = c.loop.invariant.read start item h goes in
    err_fault c.from_residual.result _
    (λ whole. HasRead g.B.Board.tells_cells g.B.Board.tells_moments start c.take_turn.new.pool w c.take_turn.new.reader
    item from to (EndsItem whole to.0))
    (AfterFault g.B.Board.tells_cells g.B.Board.tells_moments start c.take_turn.new.pool w c.take_turn.new.reader item from to)
    c.from_residual.ensures.1
    (fault_then g.B.Board.tells_cells g.B.Board.tells_moments start c.take_turn.new.pool w c.take_turn.new.reader item
    r.part (item ++ r.part) from middle to refl r.text r.passed_is c.in_err-take_turn.field-0.0
    (c.in_err-take_turn.ensures.turn start (item ++ r.part) r.reading r.and))
