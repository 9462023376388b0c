use Rattle.std.proofs.Common.{◌≡◌, Some, ◌∙◌, ap, rules}
use Rattle.content_stream.specs.Plans.{Plan}
use Rattle.content_stream.specs.Streams.{plan_of}
use Rattle.content_stream.proofs.PlanLemmas.{planned_lies}
use Rattle.store_rows.proofs.InStep.{streams}
use Rattle.store_rows.proofs.rounds.stream_most.Goals as goal

pub feed-requires-clause-lies : goal.feed-requires-clause-lies
feed-requires-clause-lies c = planned_lies 84 _ _ _ _ _ c.in-Ok.ensures.plan _ c.requires.lies

pub returns-in-Ok-Some : goal.returns-in-Ok-Some
returns-in-Ok-Some c =
    let taken : Some c.in-Ok-Some.blocks ≡ (plan_of c.feed.new.stream).blocks = search rules in
    record {
      streams = streams _ _ c.args.pool.now c.new.new.pool (plan_of c.in-Ok.stream) (Some c.in-Ok-Some.blocks)
          c.args.board.now c.feed.new.board c.abandon.new.board c.in-Ok.ensures.plan
          (taken ∙ ap (λ (p : Plan). p.blocks) c.feed.ensures.plan) c.feed.ensures.touches c.abandon.ensures.touches
          (c.in-Ok-Some.ensures.settled tt);
    }
