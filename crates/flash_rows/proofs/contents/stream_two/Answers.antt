use Rattle.std.proofs.Common.{ℕ, sym, ◌∙◌, subst}
use Rattle.content_stream.specs.Plans.{Plan, LiesBelow}
use Rattle.content_stream.specs.Streams.{plan_of}
use Rattle.content_stream.proofs.PlanLemmas.{planned_lies}
use Rattle.flash_rows.proofs.contents.stream_two.Goals as goal

pub feed-requires-clause-lies : goal.feed-requires-clause-lies
feed-requires-clause-lies g c = planned_lies 84 _ _ _ _ _ c.in-Ok.ensures.plan _ c.requires.lies

pub feed-requires-2-clause-lies : goal.feed-requires-2-clause-lies
feed-requires-2-clause-lies g c =
    subst (λ (p : Plan). LiesBelow (g.B.Board.view c.feed.new.board).blocks p) (sym c.feed.ensures.plan)
    (subst (λ (n : ℕ). LiesBelow n (plan_of c.in-Ok.stream)) (sym c.feed.ensures.touches.blocks)
    (planned_lies 84 _ _ _ _ _ c.in-Ok.ensures.plan _ c.requires.lies))

pub finish-requires-clause-lies : goal.finish-requires-clause-lies
finish-requires-clause-lies g c =
    subst (λ (p : Plan). LiesBelow (g.B.Board.view c.feed-2.new.board).blocks p) (sym (c.feed-2.ensures.plan ∙ c.feed.ensures.plan))
    (subst (λ (n : ℕ). LiesBelow n (plan_of c.in-Ok.stream)) (sym (c.feed-2.ensures.touches.blocks ∙ c.feed.ensures.touches.blocks))
    (planned_lies 84 _ _ _ _ _ c.in-Ok.ensures.plan _ c.requires.lies))
