use Rattle.std.proofs.Common.{◌≡◌, List, Bool, length, ap, ◌∙◌, subst, arith}
use Rattle.edge_board.specs.Runs.{Touches}
use Rattle.edge_board.proofs.RunLemmas.{touch_then}
use Rattle.content_stream.specs.Plans.{InFree}
use Rattle.item_intake.specs.Inflows.{Start}
use Rattle.item_intake.proofs.InflowLemmas.{inflow_streams, inflow_gathered}
use Rattle.item_intake.proofs.EndLemmas.{holds_all, gathered_empty}
use Rattle.item_intake.proofs.inflow.Inflow.finish.Goals as goal

pub returns-in-Some-clause-touches : goal.returns-in-Some-clause-touches
returns-in-Some-clause-touches g c start content h =
    c.finish_stream.ensures.touches c.args.size start c.args.pool.now content
    (inflow_streams g.B.Board.tells_cells g.B.Board.tells_moments c.args.size start c.args.pool.now
    (g.B.Board.view c.args.board.now) c.args.self content c.in-Some.stream c.in-Some.is h)

pub open_stream-requires : goal.open_stream-requires
open_stream-requires g c =
    let (start, content, h, whole) = c.requires.some in
    let x = inflow_gathered g.B.Board.tells_cells g.B.Board.tells_moments c.args.size start c.args.pool.now
    (g.B.Board.view c.args.board.now) c.args.self content c.in-None.is h in
    let text : c.deref.result.now ≡ content = c.deref.ensures.value ∙ x.front_is in
    let empty : length content ≡ 0 = gathered_empty g.B.Board.tells_cells c.args.size start c.args.pool.now
    (g.B.Board.view c.args.board.now) c.args.self.front.items content x whole in
    record { front = omega (arith, ap length text, empty, whole); lies = omega (arith, x.lies, ap length x.pool_is) }

pub finish_stream-requires-in-None : goal.finish_stream-requires-in-None
finish_stream-requires-in-None g c =
    let (start, content, h, whole) = c.requires.some in
    let x = inflow_gathered g.B.Board.tells_cells g.B.Board.tells_moments c.args.size start c.args.pool.now
    (g.B.Board.view c.args.board.now) c.args.self content c.in-None.is h in
    let begun : Start = record { pool = c.args.pool.now; erased = (g.B.Board.view c.args.board.now).erased } in
    let text : c.deref.result.now ≡ content = c.deref.ensures.value ∙ x.front_is in
    record {
      some = (
        c.args.size,
        begun,
        c.open_stream.new.pool,
        c.deref.result.now,
        c.in_ok-stream-in-None.ensures.streams,
        ap length text ∙ whole,
      );
    }

pub returns-clause-holds : goal.returns-clause-holds
returns-clause-holds g c start content h whole =
    let x = inflow_gathered g.B.Board.tells_cells g.B.Board.tells_moments c.args.size start c.args.pool.now
    (g.B.Board.view c.args.board.now) c.args.self content c.in-None.is h in
    let begun : Start = record { pool = c.args.pool.now; erased = (g.B.Board.view c.args.board.now).erased } in
    let text : c.deref.result.now ≡ content = c.deref.ensures.value ∙ x.front_is in
    holds_all g.B.Board.tells_cells c.args.pool.now start.pool c.open_stream.new.pool
    (g.B.Board.view c.finish_stream-in-None.new.board) c.deref.result.now content c.finish_stream-in-None.result
    x.pool_is text (c.finish_stream-in-None.ensures.holds c.args.size begun c.open_stream.new.pool c.deref.result.now
    c.in_ok-stream-in-None.ensures.streams (ap length text ∙ whole))

pub returns-clause-touches : goal.returns-clause-touches
returns-clause-touches g c start content h =
    let x = inflow_gathered g.B.Board.tells_cells g.B.Board.tells_moments c.args.size start c.args.pool.now
    (g.B.Board.view c.args.board.now) c.args.self content c.in-None.is h in
    let begun : Start = record { pool = c.args.pool.now; erased = (g.B.Board.view c.args.board.now).erased } in
    subst (λ (pool : List Bool). Touches g.B.Board.tells_cells (InFree 84 pool) (g.B.Board.view c.args.board.now)
    (g.B.Board.view c.finish_stream-in-None.new.board)) x.pool_is
    (touch_then _ _ _ c.open_stream.ensures.touches
    (c.finish_stream-in-None.ensures.touches c.args.size begun c.open_stream.new.pool c.deref.result.now
    c.in_ok-stream-in-None.ensures.streams))
