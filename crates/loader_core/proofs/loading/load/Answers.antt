-- Each end of a run, by what is known of the opening and of the items (proofs/Opening, proofs/Running).
use Rattle.std.proofs.Common.{◌≡◌, sym, ap, subst, ℕ, List, [], length, arith}
use Rattle.edge_board.specs.Board.{View}
use Rattle.bank_layout.specs.Recovery.{standing_of, HoldsModule}
use Rattle.module_store.specs.Store.{manifest_of}
use Rattle.module_store.specs.declared.fault.OpenFault.TheVariants as opens
use Rattle.load_input.specs.Inputs.{Buffered, ahead}
use Rattle.loader_core.specs.declared.loading.Ending.{Ending}
use Rattle.loader_core.specs.Endings.{full_ending}
use Rattle.loader_core.specs.Loading.{LoadRuns, load_seen}
use Rattle.loader_core.specs.Loops.{RunsItems, BreaksRun}
use Rattle.loader_core.proofs.Faults.{of_err, is_err}
use Rattle.loader_core.proofs.Opening.{Opened, stopped}
use Rattle.loader_core.proofs.Running.{ran, broke, same_of, held_of, IsFull, is_full, full_ends, complete_of}
use Rattle.loader_core.proofs.loading.load.Goals as goal

pub answer_items-requires-clause-holds : goal.answer_items-requires-clause-holds
answer_items-requires-clause-holds g c tells =
    subst (λ (x : List ℕ). HoldsModule x c.in-Ok.store.module c.in-Ok.store.running (manifest_of c.in-Ok.store))
    (sym (c.open.ensures.unchanged tells)) (c.in-Ok.ensures.store tells)

pub returns-in-Err-clause-runs : goal.returns-in-Err-clause-runs
returns-in-Err-clause-runs g c =
    let v0 = g.B.Board.view c.args.board.now in
    let v1 = g.B.Board.view c.open.new.board in
    let s0 = g.S.Source.supply c.args.source.now in
    let o : Opened g.B.Board.tells_cells v0 v1 = record {
      blocks = c.open.ensures.touches.blocks;
      cells = c.open.ensures.unchanged;
      silent = c.open.ensures.touches.silent;
      images = c.open.ensures.only_image;
      erased = c.open.ensures.erased;
    } in
    subst (λ (e : Ending). LoadRuns c.args.at (load_seen g.B.Board.tells_cells g.B.Board.tells_moments e s0 s0 v0 v1)) (sym c.open_ending_of.ensures.ending)
    (stopped c.args.at v0 v1 s0 (g.met.B.Board.honest c.args.board.now) o c.in-Err.fault c.open.ensures.later
    (λ n. c.in-Err.ensures.calm (λ w. n (of_err _ _ w))) (λ e. c.in-Err.ensures.fault (is_err _ _ e))
    (λ e tells. c.in-Err.ensures.not_a_module tells (is_err _ _ e)))

pub returns-in-Err-clause-complete : goal.returns-in-Err-clause-complete
returns-in-Err-clause-complete g c = complete_of c.args.at _ (returns-in-Err-clause-runs g c)

pub returns-in-Err-make_room-clause-runs : goal.returns-in-Err-make_room-clause-runs
returns-in-Err-make_room-clause-runs g c =
    let v0 = g.B.Board.view c.args.board.now in
    let v1 = g.B.Board.view c.open.new.board in
    let s0 = g.S.Source.supply c.args.source.now in
    let o : Opened g.B.Board.tells_cells v0 v1 = record {
      blocks = c.open.ensures.touches.blocks;
      cells = c.open.ensures.unchanged;
      silent = c.open.ensures.touches.silent;
      images = c.open.ensures.only_image;
      erased = c.open.ensures.erased;
    } in
    stopped c.args.at v0 v1 s0 (g.met.B.Board.honest c.args.board.now) o opens.Memory c.open.ensures.later
    (λ not. c.in-Ok.ensures.calm (λ e. cc)) (λ e. absurd cc) (λ e. absurd cc)

pub returns-in-Ok-answer_items-clause-runs : goal.returns-in-Ok-answer_items-clause-runs
returns-in-Ok-answer_items-clause-runs g c =
    let v0 = g.B.Board.view c.args.board.now in
    let v1 = g.B.Board.view c.open.new.board in
    let v2 = g.B.Board.view c.answer_items.new.board in
    let s0 = g.S.Source.supply c.args.source.now in
    let s2 = g.S.Source.supply c.answer_items.new.source in
    let store = c.in-Ok.store in
    let m = store.module in
    let start = standing_of m (manifest_of store) v1.cells in
    let input = c.in-Ok-make_room.room.1 in
    let new = c.answer_items.new.input in
    let none : input ≡ record { octets = []; passed = 0 } = c.in-Ok-make_room.ensures.input in
    let o : Opened g.B.Board.tells_cells v0 v1 = record {
      blocks = c.open.ensures.touches.blocks;
      cells = c.open.ensures.unchanged;
      silent = c.open.ensures.touches.silent;
      images = c.open.ensures.only_image;
      erased = c.open.ensures.erased;
    } in
    let r = c.in-Ok-answer_items.ensures in
    let refused = c.in-Ok-answer_items.refused in
    let full : IsFull refused = is_full refused in
    subst (λ (e : Ending). LoadRuns c.args.at (load_seen g.B.Board.tells_cells g.B.Board.tells_moments e s0 s2 v0 v2)) (sym c.full_ending_of.ensures.ending)
    (ran c.args.at v0 v1 v2 s0 s2 new.passed new.octets (g.met.B.Board.honest c.args.board.now) o
    (c.in-Ok.ensures.calm (λ e. cc)) c.answer_items.ensures.blocks c.answer_items.ensures.within
    m start
    (λ tells. same_of c.each_image_has_one_holder.ensures.store v0.cells v1.cells m store.running (manifest_of store) (c.in-Ok.ensures.store tells) (c.open.ensures.unchanged tells))
    (λ tells. held_of v0.cells m store.running (manifest_of store) (c.in-Ok.ensures.store tells))
    refused (full_ending refused)
    (subst (λ (x : Buffered). RunsItems g.B.Board.tells_cells g.B.Board.tells_moments m c.args.at start v1 v2 (ahead x s0) (ahead new s2) x.passed new.passed refused) none r.runs)
    r.empty
    (λ small. omega (arith, r.counted small, ap (λ (x : Buffered). x.passed) none, ap (λ (x : Buffered). length x.octets) none, ap length r.empty))
    (r.source.calm (λ e. cc)) (r.device.calm (λ e. cc)) r.settled
    full.none full.source full.device full.long (λ n s items taken rest h. full_ends c.args.at n s items refused taken rest _ h))

pub returns-in-Ok-answer_items-clause-complete : goal.returns-in-Ok-answer_items-clause-complete
returns-in-Ok-answer_items-clause-complete g c = complete_of c.args.at _ (returns-in-Ok-answer_items-clause-runs g c)

pub returns-clause-runs : goal.returns-clause-runs
returns-clause-runs g c =
    let v0 = g.B.Board.view c.args.board.now in
    let v1 = g.B.Board.view c.open.new.board in
    let v2 = g.B.Board.view c.answer_items.new.board in
    let s0 = g.S.Source.supply c.args.source.now in
    let s2 = g.S.Source.supply c.answer_items.new.source in
    let store = c.in-Ok.store in
    let m = store.module in
    let start = standing_of m (manifest_of store) v1.cells in
    let input = c.in-Ok-make_room.room.1 in
    let new = c.answer_items.new.input in
    let none : input ≡ record { octets = []; passed = 0 } = c.in-Ok-make_room.ensures.input in
    let o : Opened g.B.Board.tells_cells v0 v1 = record {
      blocks = c.open.ensures.touches.blocks;
      cells = c.open.ensures.unchanged;
      silent = c.open.ensures.touches.silent;
      images = c.open.ensures.only_image;
      erased = c.open.ensures.erased;
    } in
    let r = c.in-Err-answer_items.ensures in
    let fault = c.in-Err-answer_items.fault in
    subst (λ (e : Ending). LoadRuns c.args.at (load_seen g.B.Board.tells_cells g.B.Board.tells_moments e s0 s2 v0 v2)) (sym c.fault_ending_of.ensures.ending)
    (broke c.args.at v0 v1 v2 s0 s2 new.passed new.octets (g.met.B.Board.honest c.args.board.now) o
    (c.in-Ok.ensures.calm (λ e. cc)) c.answer_items.ensures.blocks c.answer_items.ensures.within
    m start
    (λ tells. same_of c.each_image_has_one_holder.ensures.store v0.cells v1.cells m store.running (manifest_of store) (c.in-Ok.ensures.store tells) (c.open.ensures.unchanged tells))
    (λ tells. held_of v0.cells m store.running (manifest_of store) (c.in-Ok.ensures.store tells))
    fault
    (subst (λ (x : Buffered). BreaksRun g.B.Board.tells_cells g.B.Board.tells_moments m c.args.at start v1 v2 (ahead x s0) (ahead new s2) x.passed new.passed new.octets fault) none r.breaks)
    (λ e. r.dry (is_err _ _ e)) (λ e. r.whole (is_err _ _ e))
    (λ small. omega (arith, r.counted small, ap (λ (x : Buffered). x.passed) none, ap (λ (x : Buffered). length x.octets) none))
    r.source.later (λ n. r.source.calm (λ w. n (of_err _ _ w))) (λ e. r.source.failed (is_err _ _ e))
    r.device.later (λ n. r.device.calm (λ w. n (of_err _ _ w))) (λ e. r.device.failed (is_err _ _ e)))

pub returns-clause-complete : goal.returns-clause-complete
returns-clause-complete g c = complete_of c.args.at _ (returns-clause-runs g c)
