use Rattle.std.proofs.Common.{ℕ, [], length, sym, subst, refl}
use Rattle.edge_board.proofs.RunLemmas.{touch_then}
use Rattle.der_core.proofs.Sequences.{none_of_none}
use Rattle.package_attrs.specs.Image.{blocks_for}
use Rattle.item_intake.specs.Inflows.{Start, RisesAtMost}
use Rattle.item_intake.specs.ReadItem.{BreaksItem}
use Rattle.item_intake.specs.Turns.{place_of}
use Rattle.item_intake.proofs.TurnLemmas.{err_breaks}
use Rattle.item_intake.proofs.ItemLemmas.{reading_none, reading_erased}
use Rattle.item_intake.proofs.BreakLemmas.{break_fault, break_end}
use Rattle.item_intake.proofs.reading.read_item.Goals as goal

pub read_turns-requires : goal.read_turns-requires
read_turns-requires g c =
    let v = g.B.Board.view c.args.board.now in
    let start : Start = record { pool = c.args.pool.now; erased = v.erased } in
    let none = reading_none g.B.Board.tells_cells g.B.Board.tells_moments start v c.new-reader.result
    c.new-reader.ensures.fresh c.requires.settled refl c.requires.lies in
    record { reading = (start, [], none, none_of_none) }

pub returns-in_err-whole-clause-touches : goal.returns-in_err-whole-clause-touches
returns-in_err-whole-clause-touches g c =
    let v = g.B.Board.view c.args.board.now in
    let start : Start = record { pool = c.args.pool.now; erased = v.erased } in
    let none = reading_none g.B.Board.tells_cells g.B.Board.tells_moments start v c.new-reader.result
    c.new-reader.ensures.fresh c.requires.settled refl c.requires.lies in
    c.read_turns.ensures.touches start [] none none_of_none

pub returns-in_err-whole-clause-breaks : goal.returns-in_err-whole-clause-breaks
returns-in_err-whole-clause-breaks g c =
    let v = g.B.Board.view c.args.board.now in
    let start : Start = record { pool = c.args.pool.now; erased = v.erased } in
    let none = reading_none g.B.Board.tells_cells g.B.Board.tells_moments start v c.new-reader.result
    c.new-reader.ensures.fresh c.requires.settled refl c.requires.lies in
    let from = place_of c.args.input.now (g.S.Source.supply c.args.source.now).left in
    let to = place_of c.read_turns.new.input (g.S.Source.supply c.read_turns.new.source).left in
    let w = g.B.Board.view c.read_turns.new.board in
    err_breaks c.from_residual.result _
    (BreaksItem g.B.Board.tells_moments c.args.pool.now v.erased w from.0 to.0 from.1 to.1) c.from_residual.ensures.1
    (break_fault c.one_content.ensures g.B.Board.tells_cells g.B.Board.tells_moments start c.read_turns.new.pool w
    c.read_turns.new.reader from to _ (c.in_err-whole.ensures.read start [] none none_of_none))

pub end_item-requires : goal.end_item-requires
end_item-requires g c =
    let v = g.B.Board.view c.args.board.now in
    let start : Start = record { pool = c.args.pool.now; erased = v.erased } in
    let none = reading_none g.B.Board.tells_cells g.B.Board.tells_moments start v c.new-reader.result
    c.new-reader.ensures.fresh c.requires.settled refl c.requires.lies in
    let r = c.in_ok-whole.ensures.read start [] none none_of_none in
    record {
      reading = (
        start,
        r.part,
        (place_of c.read_turns.new.input (g.S.Source.supply c.read_turns.new.source).left).0,
        r.reading,
        r.and,
      );
    }

pub returns-in_err-item-clause-touches : goal.returns-in_err-item-clause-touches
returns-in_err-item-clause-touches g c =
    let v = g.B.Board.view c.args.board.now in
    let start : Start = record { pool = c.args.pool.now; erased = v.erased } in
    let none = reading_none g.B.Board.tells_cells g.B.Board.tells_moments start v c.new-reader.result
    c.new-reader.ensures.fresh c.requires.settled refl c.requires.lies in
    let r = c.in_ok-whole.ensures.read start [] none none_of_none in
    touch_then _ _ _ (c.read_turns.ensures.touches start [] none none_of_none)
    (c.end_item.ensures.touches start r.part r.reading)

pub returns-clause-touches : goal.returns-clause-touches
returns-clause-touches g c =
    let v = g.B.Board.view c.args.board.now in
    let start : Start = record { pool = c.args.pool.now; erased = v.erased } in
    let none = reading_none g.B.Board.tells_cells g.B.Board.tells_moments start v c.new-reader.result
    c.new-reader.ensures.fresh c.requires.settled refl c.requires.lies in
    let r = c.in_ok-whole.ensures.read start [] none none_of_none in
    touch_then _ _ _ (c.read_turns.ensures.touches start [] none none_of_none)
    (c.end_item.ensures.touches start r.part r.reading)

pub returns-in_err-item-clause-breaks : goal.returns-in_err-item-clause-breaks
returns-in_err-item-clause-breaks g c =
    let v = g.B.Board.view c.args.board.now in
    let start : Start = record { pool = c.args.pool.now; erased = v.erased } in
    let none = reading_none g.B.Board.tells_cells g.B.Board.tells_moments start v c.new-reader.result
    c.new-reader.ensures.fresh c.requires.settled refl c.requires.lies in
    let from = place_of c.args.input.now (g.S.Source.supply c.args.source.now).left in
    let to = place_of c.read_turns.new.input (g.S.Source.supply c.read_turns.new.source).left in
    let w = g.B.Board.view c.read_turns.new.board in
    let r = c.in_ok-whole.ensures.read start [] none none_of_none in
    let e = g.B.Board.view c.end_item.new.board in
    err_breaks c.from_residual-in_err-item.result _
    (BreaksItem g.B.Board.tells_moments c.args.pool.now v.erased e from.0 to.0 from.1 to.1) c.from_residual-in_err-item.ensures.1
    (break_end g.B.Board.tells_cells g.B.Board.tells_moments start c.read_turns.new.pool w e c.read_turns.new.reader
    from to c.in_ok-whole.whole _ c.end_item.ensures.erased r)

pub returns-clause-read : goal.returns-clause-read
returns-clause-read g c =
    let v = g.B.Board.view c.args.board.now in
    let start : Start = record { pool = c.args.pool.now; erased = v.erased } in
    let none = reading_none g.B.Board.tells_cells g.B.Board.tells_moments start v c.new-reader.result
    c.new-reader.ensures.fresh c.requires.settled refl c.requires.lies in
    let from = place_of c.args.input.now (g.S.Source.supply c.args.source.now).left in
    let to = place_of c.read_turns.new.input (g.S.Source.supply c.read_turns.new.source).left in
    let w = g.B.Board.view c.read_turns.new.board in
    let r = c.in_ok-whole.ensures.read start [] none none_of_none in
    record {
      octets = r.part;
      text = r.text;
      passed_is = r.passed_is;
      is = c.in_ok-item.ensures.item start r.part to.0 r.reading r.and;
      erased_is = subst (λ (n : ℕ). RisesAtMost (blocks_for (length r.part)) v.erased n) (sym c.end_item.ensures.erased)
          (reading_erased g.B.Board.tells_cells g.B.Board.tells_moments start c.read_turns.new.pool w c.read_turns.new.reader r.part r.reading);
    }

pub returns-clause-empty : goal.returns-clause-empty
returns-clause-empty g c last = c.in_ok-whole.ensures.empty (c.in_ok-item.ensures.last last)
