use Rattle.std.proofs.Common.{◌≡◌, ℕ, ◌+◌, List, take, length, ◌++◌, sym, ap, ◌∙◌, arith, length-take}
use Rattle.item_intake.specs.Turns.{HasBroken, place_of, AfterTurn, AfterFault}
use Rattle.item_intake.proofs.TurnLemmas.{handed_on, splits_last, splits_ends, splits_goes, taking_split, reading_next, erased_next, after_broken, err_fault}
use Rattle.item_intake.proofs.turns.take_buffered.Goals as goal

pub put-result-requires : goal.put-result-requires
put-result-requires g c =
    let (start, item, h, goes) = c.requires.reading in
    let t = taking_split g.B.Board.tells_cells g.B.Board.tells_moments start c.args.pool.now
    (g.B.Board.view c.args.board.now) c.args.reader.now.intake c.split-split.new.self.intake c.args.reader.now.skips
    c.split-split.new.self.skips item c.split-split.ensures.intake c.split-split.ensures.sticky h.taking in
    record { some = (start, item, t) }

pub returns-in_err-result-clause-touches : goal.returns-in_err-result-clause-touches
returns-in_err-result-clause-touches g c start item h =
    let t = taking_split g.B.Board.tells_cells g.B.Board.tells_moments start c.args.pool.now
    (g.B.Board.view c.args.board.now) c.args.reader.now.intake c.split-split.new.self.intake c.args.reader.now.skips
    c.split-split.new.self.skips item c.split-split.ensures.intake c.split-split.ensures.sticky h.taking in
    c.put-result.ensures.touches start item t

pub returns-then-split-clause-touches : goal.returns-then-split-clause-touches
returns-then-split-clause-touches g c start item h =
    let t = taking_split g.B.Board.tells_cells g.B.Board.tells_moments start c.args.pool.now
    (g.B.Board.view c.args.board.now) c.args.reader.now.intake c.split-split.new.self.intake c.args.reader.now.skips
    c.split-split.new.self.skips item c.split-split.ensures.intake c.split-split.ensures.sticky h.taking in
    c.put-result.ensures.touches start item t

pub returns-else-split-clause-touches : goal.returns-else-split-clause-touches
returns-else-split-clause-touches g c start item h =
    let t = taking_split g.B.Board.tells_cells g.B.Board.tells_moments start c.args.pool.now
    (g.B.Board.view c.args.board.now) c.args.reader.now.intake c.split-split.new.self.intake c.args.reader.now.skips
    c.split-split.new.self.skips item c.split-split.ensures.intake c.split-split.ensures.sticky h.taking in
    c.put-result.ensures.touches start item t

pub returns-in_err-result-clause-turn : goal.returns-in_err-result-clause-turn
returns-in_err-result-clause-turn g c start item left h goes =
    let n : ℕ = c.split-split.result.n in
    let part : List ℕ = take n c.octets.result.now in
    let same : take n c.octets-2.result.now ≡ part =
    ap (λ (l : List ℕ). take n l) (c.octets-2.ensures.octets ∙ sym c.octets.ensures.octets) in
    let t = taking_split g.B.Board.tells_cells g.B.Board.tells_moments start c.args.pool.now
    (g.B.Board.view c.args.board.now) c.args.reader.now.intake c.split-split.new.self.intake c.args.reader.now.skips
    c.split-split.new.self.skips item c.split-split.ensures.intake c.split-split.ensures.sticky h.taking in
    let x = c.split-split.ensures.split item h.split goes in
    let from = place_of c.args.input.now left in
    let to = place_of c.pass.new.self left in
    let text = handed_on c.args.input.now.octets c.pass.new.self.octets part n left c.pass.ensures.octets
    (ap (λ (l : List ℕ). take n l) c.octets.ensures.octets) in
    let passed : to.1 ≡ from.1 + length part =
    omega (arith, c.pass.ensures.passed, c.split-split.ensures.within, length-take n c.octets.result.now) in
    let w = g.B.Board.view c.put-result.new.board in
    let broken : HasBroken start w item from to = record {
      part = part;
      text = text;
      passed_is = passed;
      last = splits_last c.split-split.result.ends (item ++ part) x.1;
      erased = erased_next item part (take n c.octets-2.result.now) _ _ same (c.put-result.ensures.erased start item t);
    } in
    err_fault c.from_residual.result _
    (AfterTurn g.B.Board.tells_cells g.B.Board.tells_moments start c.put-result.new.pool w c.put-result.new.self item from to)
    (AfterFault g.B.Board.tells_cells g.B.Board.tells_moments start c.put-result.new.pool w c.put-result.new.self item from to)
    c.from_residual.ensures.1
    (after_broken g.B.Board.tells_cells g.B.Board.tells_moments start c.put-result.new.pool w c.put-result.new.self item
    from to c.in_err-result.field-0.0 broken)

pub returns-then-split-clause-turn : goal.returns-then-split-clause-turn
returns-then-split-clause-turn g c start item left h goes =
    let n : ℕ = c.split-split.result.n in
    let part : List ℕ = take n c.octets.result.now in
    let same : take n c.octets-2.result.now ≡ part =
    ap (λ (l : List ℕ). take n l) (c.octets-2.ensures.octets ∙ sym c.octets.ensures.octets) in
    let t = taking_split g.B.Board.tells_cells g.B.Board.tells_moments start c.args.pool.now
    (g.B.Board.view c.args.board.now) c.args.reader.now.intake c.split-split.new.self.intake c.args.reader.now.skips
    c.split-split.new.self.skips item c.split-split.ensures.intake c.split-split.ensures.sticky h.taking in
    let x = c.split-split.ensures.split item h.split goes in
    let from = place_of c.args.input.now left in
    let to = place_of c.pass.new.self left in
    let text = handed_on c.args.input.now.octets c.pass.new.self.octets part n left c.pass.ensures.octets
    (ap (λ (l : List ℕ). take n l) c.octets.ensures.octets) in
    let passed : to.1 ≡ from.1 + length part =
    omega (arith, c.pass.ensures.passed, c.split-split.ensures.within, length-take n c.octets.result.now) in
    let reading = reading_next g.B.Board.tells_cells g.B.Board.tells_moments start c.put-result.new.pool
    (g.B.Board.view c.put-result.new.board) c.split-split.new.self c.put-result.new.self item part
    (take n c.octets-2.result.now) x.0 c.put-result.ensures.same.0 c.put-result.ensures.same.1
    c.put-result.ensures.same.2 same (c.in_ok-result.ensures.taking start item t) in
    record { part = part; text = text; passed_is = passed; reading = reading; and = splits_ends c.split-split.result.ends (item ++ part) c.if-split.true x.1 }

pub returns-else-split-clause-turn : goal.returns-else-split-clause-turn
returns-else-split-clause-turn g c start item left h goes =
    let n : ℕ = c.split-split.result.n in
    let part : List ℕ = take n c.octets.result.now in
    let same : take n c.octets-2.result.now ≡ part =
    ap (λ (l : List ℕ). take n l) (c.octets-2.ensures.octets ∙ sym c.octets.ensures.octets) in
    let t = taking_split g.B.Board.tells_cells g.B.Board.tells_moments start c.args.pool.now
    (g.B.Board.view c.args.board.now) c.args.reader.now.intake c.split-split.new.self.intake c.args.reader.now.skips
    c.split-split.new.self.skips item c.split-split.ensures.intake c.split-split.ensures.sticky h.taking in
    let x = c.split-split.ensures.split item h.split goes in
    let from = place_of c.args.input.now left in
    let to = place_of c.pass.new.self left in
    let text = handed_on c.args.input.now.octets c.pass.new.self.octets part n left c.pass.ensures.octets
    (ap (λ (l : List ℕ). take n l) c.octets.ensures.octets) in
    let passed : to.1 ≡ from.1 + length part =
    omega (arith, c.pass.ensures.passed, c.split-split.ensures.within, length-take n c.octets.result.now) in
    let reading = reading_next g.B.Board.tells_cells g.B.Board.tells_moments start c.put-result.new.pool
    (g.B.Board.view c.put-result.new.board) c.split-split.new.self c.put-result.new.self item part
    (take n c.octets-2.result.now) x.0 c.put-result.ensures.same.0 c.put-result.ensures.same.1
    c.put-result.ensures.same.2 same (c.in_ok-result.ensures.taking start item t) in
    record { part = part; text = text; passed_is = passed; reading = reading; and = splits_goes c.split-split.result.ends (item ++ part) c.if-split.false x.1 }
