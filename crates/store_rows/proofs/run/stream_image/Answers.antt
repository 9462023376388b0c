use Rattle.std.proofs.Common.{◌≡◌, ℕ, sym, subst, ◌∙◌, ap}
use Rattle.edge_board.specs.Board.{IsSettled}
use Rattle.edge_board.specs.MemBoard.{mem_view}
use Rattle.content_stream.specs.Plans.{Plan, LiesBelow}
use Rattle.content_stream.specs.Streams.{plan_of}
use Rattle.content_stream.specs.declared.content_stream.Streamed.{Streamed}
use Rattle.content_stream.proofs.PlanLemmas.{planned_lies}
use Rattle.store_rows.specs.InStep.{StreamsInto}
use Rattle.store_rows.proofs.InStep.{if_ok, streams}
use Rattle.store_rows.proofs.run.stream_image.Goals as goal

pub feed-requires-clause-lies : goal.feed-requires-clause-lies
feed-requires-clause-lies c = planned_lies 84 _ _ _ _ _ c.in-Ok.ensures.plan _ c.requires.lies

pub finish-requires-clause-lies : goal.finish-requires-clause-lies
finish-requires-clause-lies c =
    subst (λ (p : Plan). LiesBelow (mem_view c.feed.new.board).blocks p) (sym c.feed.ensures.plan)
    (subst (λ (n : ℕ). LiesBelow n (plan_of c.in-Ok.stream)) (sym c.feed.ensures.touches.blocks)
    (planned_lies 84 _ _ _ _ _ c.in-Ok.ensures.plan _ c.requires.lies))

pub returns : goal.returns
returns c = record {
  streams = if_ok (λ (t : Streamed). t.blocks ≡ (plan_of c.feed.new.stream).blocks)
      (λ (t : Streamed). StreamsInto c.args.pool.now c.new.new.pool t.blocks (mem_view c.args.board.now)
      (mem_view c.finish.new.board)) (IsSettled (mem_view c.finish.new.board)) c.finish.result c.ok.result
      c.ok.ensures.value c.finish.ensures.blocks (c.finish.ensures.settled tt) (λ t taken settled.
      streams _ _ c.args.pool.now c.new.new.pool (plan_of c.in-Ok.stream) t.blocks c.args.board.now c.feed.new.board
      c.finish.new.board c.in-Ok.ensures.plan (taken ∙ ap (λ (p : Plan). p.blocks) c.feed.ensures.plan)
      c.feed.ensures.touches c.finish.ensures.touches settled);
}
