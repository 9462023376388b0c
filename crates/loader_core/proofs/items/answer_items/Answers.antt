-- Each turn of the loop, by what is known of turns that follow each other (proofs/Turning).
use Rattle.std.proofs.Common.{◌∙◌, refl, sym, ap, arith}
use Rattle.module_record.specs.declared.module.Module.{Module}
use Rattle.bank_layout.specs.Recovery.{standing_of}
use Rattle.module_store.specs.Store.{manifest_of}
use Rattle.load_input.specs.Inputs.{ahead}
use Rattle.item_intake.specs.declared.fault.LoadFault.TheVariants as faults
use Rattle.load_item.specs.declared.turn.Turn.TheVariants as turns
use Rattle.loader_core.proofs.Turning.{turns_none, goes_accepted, goes_refused, turn_last, turn_ends, turn_fails, moved_turn, moved_fault}
use Rattle.loader_core.proofs.Faults.{err_breaks, err_counted, err_cause, goes_on_accepted, goes_on_refused, of_err, is_err}
use Rattle.loader_core.proofs.items.answer_items.Goals as goal

pub loop-refused-init : goal.loop-refused-init
loop-refused-init g c =
    let store = c.args.store.now in
    let v = g.B.Board.view c.args.board.now in
    record {
      valid = c.requires.valid;
      quiet = c.requires.quiet;
      size = refl;
      owner = refl;
      tree = refl;
      settled = c.requires.settled;
      holds = c.requires.holds;
      turns = turns_none store.module c.args.at (standing_of store.module (manifest_of store) v.cells) v
          (ahead c.args.input.now (g.S.Source.supply c.args.source.now)) c.args.input.now.passed (g.met.B.Board.honest c.args.board.now)
          c.requires.settled (λ tells. (store.running, manifest_of store, c.requires.holds tells, refl));
      counted = λ small. omega arith;
      source = refl;
      device = refl;
    }

pub loop-refused-preserved-in-Accepted : goal.loop-refused-preserved-in-Accepted
loop-refused-preserved-in-Accepted g c =
    let store = c.args.store.now in
    let i = c.loop-refused.invariant in
    let m = store.module in
    let r = c.in_ok-answer_item.ensures in
    let v0 = g.B.Board.view c.args.board.now in
    let v1 = g.B.Board.view c.loop-refused.board in
    let v2 = g.B.Board.view c.answer_item.new.board in
    let l0 = ahead c.args.input.now (g.S.Source.supply c.args.source.now) in
    let l1 = ahead c.loop-refused.input (g.S.Source.supply c.loop-refused.source) in
    let l2 = ahead c.answer_item.new.input (g.S.Source.supply c.answer_item.new.source) in
    let p0 = c.args.input.now.passed in
    let p1 = c.loop-refused.input.passed in
    let p2 = c.answer_item.new.input.passed in
    record {
      valid = r.valid;
      quiet = r.quiet;
      size = c.answer_item.ensures.blocks ∙ i.size;
      owner = c.answer_item.ensures.owner ∙ i.owner;
      tree = c.answer_item.ensures.tree ∙ i.tree;
      settled = r.settled;
      holds = r.holds;
      turns = goes_accepted m c.args.at (standing_of m (manifest_of store) v0.cells) (standing_of m (manifest_of c.loop-refused.store) v1.cells)
          v0 v1 v2 l0 l1 l2 p0 p1 p2 c.loop-refused.refused (g.met.B.Board.honest c.args.board.now) (g.met.B.Board.honest c.loop-refused.board) i.turns
          (standing_of m (manifest_of c.answer_item.new.store) v2.cells)
          (moved_turn c.loop-refused.store.module m c.args.at (manifest_of c.loop-refused.store) (manifest_of c.answer_item.new.store) v1 v2 l1 l2 p1 p2
          c.in_ok-answer_item.field-0 turns.Accepted i.owner c.in-Accepted.is r.turn);
      counted = λ small. omega (arith, r.counted small, c.answer_item.ensures.later, i.counted (omega (arith, r.counted small, c.answer_item.ensures.later)));
      source = r.source.calm (λ e. cc) ∙ i.source;
      device = r.device.calm (λ e. cc) ∙ i.device;
    }

pub loop-refused-preserved : goal.loop-refused-preserved
loop-refused-preserved g c =
    let store = c.args.store.now in
    let i = c.loop-refused.invariant in
    let m = store.module in
    let r = c.in_ok-answer_item.ensures in
    let v0 = g.B.Board.view c.args.board.now in
    let v1 = g.B.Board.view c.loop-refused.board in
    let v2 = g.B.Board.view c.answer_item.new.board in
    let l0 = ahead c.args.input.now (g.S.Source.supply c.args.source.now) in
    let l1 = ahead c.loop-refused.input (g.S.Source.supply c.loop-refused.source) in
    let l2 = ahead c.answer_item.new.input (g.S.Source.supply c.answer_item.new.source) in
    let p0 = c.args.input.now.passed in
    let p1 = c.loop-refused.input.passed in
    let p2 = c.answer_item.new.input.passed in
    record {
      valid = r.valid;
      quiet = r.quiet;
      size = c.answer_item.ensures.blocks ∙ i.size;
      owner = c.answer_item.ensures.owner ∙ i.owner;
      tree = c.answer_item.ensures.tree ∙ i.tree;
      settled = r.settled;
      holds = r.holds;
      turns = goes_refused m c.args.at (standing_of m (manifest_of store) v0.cells) (standing_of m (manifest_of c.loop-refused.store) v1.cells)
          v0 v1 v2 l0 l1 l2 p0 p1 p2 c.loop-refused.refused (g.met.B.Board.honest c.args.board.now) (g.met.B.Board.honest c.loop-refused.board) i.turns
          (standing_of m (manifest_of c.answer_item.new.store) v2.cells)
          (moved_turn c.loop-refused.store.module m c.args.at (manifest_of c.loop-refused.store) (manifest_of c.answer_item.new.store) v1 v2 l1 l2 p1 p2
          c.in_ok-answer_item.field-0 turns.Refused i.owner c.in-Refused.is r.turn);
      counted = λ small. omega (arith, r.counted small, c.answer_item.ensures.later, i.counted (omega (arith, r.counted small, c.answer_item.ensures.later)));
      source = r.source.calm (λ e. cc) ∙ i.source;
      device = r.device.calm (λ e. cc) ∙ i.device;
    }

pub loop-refused-smaller-in-Accepted : goal.loop-refused-smaller-in-Accepted
loop-refused-smaller-in-Accepted g c =
    omega (arith, c.answer_item.ensures.within, c.in_ok-answer_item.ensures.grows (goes_on_accepted c.in_ok-answer_item.field-0 c.in-Accepted.is))

pub loop-refused-smaller : goal.loop-refused-smaller
loop-refused-smaller g c =
    omega (arith, c.answer_item.ensures.within, c.in_ok-answer_item.ensures.grows (goes_on_refused c.in_ok-answer_item.field-0 c.in-Refused.is))

pub returns-in-Last-clause-runs : goal.returns-in-Last-clause-runs
returns-in-Last-clause-runs g c =
    let store = c.args.store.now in
    let i = c.loop-refused.invariant in
    let m = store.module in
    let r = c.in_ok-answer_item.ensures in
    let v0 = g.B.Board.view c.args.board.now in
    let v1 = g.B.Board.view c.loop-refused.board in
    let v2 = g.B.Board.view c.answer_item.new.board in
    let l0 = ahead c.args.input.now (g.S.Source.supply c.args.source.now) in
    let l1 = ahead c.loop-refused.input (g.S.Source.supply c.loop-refused.source) in
    let l2 = ahead c.answer_item.new.input (g.S.Source.supply c.answer_item.new.source) in
    let p0 = c.args.input.now.passed in
    let p1 = c.loop-refused.input.passed in
    let p2 = c.answer_item.new.input.passed in
    turn_last m c.args.at (standing_of m (manifest_of store) v0.cells) (standing_of m (manifest_of c.loop-refused.store) v1.cells)
    v0 v1 v2 l0 l1 l2 p0 p1 p2 c.loop-refused.refused (g.met.B.Board.honest c.args.board.now) (g.met.B.Board.honest c.loop-refused.board) i.turns
    (standing_of m (manifest_of c.answer_item.new.store) v2.cells)
    (moved_turn c.loop-refused.store.module m c.args.at (manifest_of c.loop-refused.store) (manifest_of c.answer_item.new.store) v1 v2 l1 l2 p1 p2
    c.in_ok-answer_item.field-0 turns.Last i.owner c.in-Last.is r.turn)

pub returns-in-End-clause-runs : goal.returns-in-End-clause-runs
returns-in-End-clause-runs g c =
    let store = c.args.store.now in
    let i = c.loop-refused.invariant in
    let m = store.module in
    let r = c.in_ok-answer_item.ensures in
    let v0 = g.B.Board.view c.args.board.now in
    let v1 = g.B.Board.view c.loop-refused.board in
    let v2 = g.B.Board.view c.answer_item.new.board in
    let l0 = ahead c.args.input.now (g.S.Source.supply c.args.source.now) in
    let l1 = ahead c.loop-refused.input (g.S.Source.supply c.loop-refused.source) in
    let l2 = ahead c.answer_item.new.input (g.S.Source.supply c.answer_item.new.source) in
    let p0 = c.args.input.now.passed in
    let p1 = c.loop-refused.input.passed in
    let p2 = c.answer_item.new.input.passed in
    turn_ends m c.args.at (standing_of m (manifest_of store) v0.cells) (standing_of m (manifest_of c.loop-refused.store) v1.cells)
    v0 v1 v2 l0 l1 l2 p0 p1 p2 c.loop-refused.refused (g.met.B.Board.honest c.args.board.now) (g.met.B.Board.honest c.loop-refused.board) i.turns
    (standing_of m (manifest_of c.answer_item.new.store) v2.cells)
    (moved_turn c.loop-refused.store.module m c.args.at (manifest_of c.loop-refused.store) (manifest_of c.answer_item.new.store) v1 v2 l1 l2 p1 p2
    c.in_ok-answer_item.field-0 turns.End i.owner c.in-End.is r.turn)

pub returns-in-Last-clause-counted : goal.returns-in-Last-clause-counted
returns-in-Last-clause-counted g c small =
    let r = c.in_ok-answer_item.ensures in
    omega (arith, r.counted small, c.answer_item.ensures.later, c.loop-refused.invariant.counted (omega (arith, r.counted small, c.answer_item.ensures.later)))

pub returns-in-End-clause-counted : goal.returns-in-End-clause-counted
returns-in-End-clause-counted g c small =
    let r = c.in_ok-answer_item.ensures in
    omega (arith, r.counted small, c.answer_item.ensures.later, c.loop-refused.invariant.counted (omega (arith, r.counted small, c.answer_item.ensures.later)))

pub returns-in_err-answer_item-clause-breaks : goal.returns-in_err-answer_item-clause-breaks
returns-in_err-answer_item-clause-breaks g c =
    let store = c.args.store.now in
    let i = c.loop-refused.invariant in
    let m = store.module in
    let fault = c.in_err-answer_item.field-0.0 in
    let v0 = g.B.Board.view c.args.board.now in
    let v1 = g.B.Board.view c.loop-refused.board in
    let v2 = g.B.Board.view c.answer_item.new.board in
    let l0 = ahead c.args.input.now (g.S.Source.supply c.args.source.now) in
    let l1 = ahead c.loop-refused.input (g.S.Source.supply c.loop-refused.source) in
    let l2 = ahead c.answer_item.new.input (g.S.Source.supply c.answer_item.new.source) in
    let p0 = c.args.input.now.passed in
    let p1 = c.loop-refused.input.passed in
    let p2 = c.answer_item.new.input.passed in
    let start = standing_of m (manifest_of store) v0.cells in
    err_breaks m c.args.at start v0 v2 l0 l2 p0 p2 c.answer_item.new.input.octets c.from_residual.result fault c.from_residual.ensures.1
    (turn_fails m c.args.at start (standing_of m (manifest_of c.loop-refused.store) v1.cells)
    v0 v1 v2 l0 l1 l2 p0 p1 p2 c.loop-refused.refused (g.met.B.Board.honest c.args.board.now) (g.met.B.Board.honest c.loop-refused.board) i.turns
    c.answer_item.new.input.octets fault
    (moved_fault c.loop-refused.store.module m c.args.at (manifest_of c.loop-refused.store) v1 v2 l1 l2 p1 p2 c.answer_item.new.input.octets fault i.owner c.in_err-answer_item.ensures.fails))

pub returns-in_err-answer_item-clause-counted : goal.returns-in_err-answer_item-clause-counted
returns-in_err-answer_item-clause-counted g c small =
    let e = c.in_err-answer_item.ensures in
    err_counted c.from_residual.result c.in_err-answer_item.field-0.0 c.args.input.now c.answer_item.new.input
    (g.S.Source.supply c.args.source.now).taken (g.S.Source.supply c.answer_item.new.source).taken c.from_residual.ensures.1
    (omega (arith, e.counted small, c.answer_item.ensures.later, c.loop-refused.invariant.counted (omega (arith, e.counted small, c.answer_item.ensures.later))))

pub returns-in_err-answer_item-clause-source : goal.returns-in_err-answer_item-clause-source
returns-in_err-answer_item-clause-source g c =
    let e = c.in_err-answer_item.ensures.source in
    err_cause faults.Source (g.S.Source.supply c.args.source.now).faults (g.S.Source.supply c.loop-refused.source).faults (g.S.Source.supply c.answer_item.new.source).faults
    c.from_residual.result c.in_err-answer_item.field-0.0 c.from_residual.ensures.1 c.loop-refused.invariant.source e.later (λ not. e.calm (λ w. not (of_err _ _ w))) (λ w. e.failed (is_err _ _ w))

pub returns-in_err-answer_item-clause-device : goal.returns-in_err-answer_item-clause-device
returns-in_err-answer_item-clause-device g c =
    let e = c.in_err-answer_item.ensures.device in
    err_cause faults.Device (g.B.Board.view c.args.board.now).faults (g.B.Board.view c.loop-refused.board).faults (g.B.Board.view c.answer_item.new.board).faults
    c.from_residual.result c.in_err-answer_item.field-0.0 c.from_residual.ensures.1 c.loop-refused.invariant.device e.later (λ not. e.calm (λ w. not (of_err _ _ w))) (λ w. e.failed (is_err _ _ w))

pub answer_item-requires-clause-tree : goal.answer_item-requires-clause-tree
answer_item-requires-clause-tree g c = c.loop-refused.invariant.tree ∙ c.requires.tree ∙ sym (ap (λ (m : Module). m.key) c.loop-refused.invariant.owner)
