use Rattle.std.proofs.Common.{sym, ◌∙◌}
use Rattle.edge_board.proofs.RunLemmas.{touch_wider}
use Rattle.item_intake.proofs.EndLemmas.{taken_live, taken_given}
use Rattle.item_intake.proofs.ending.abandon_stream.Goals as goal

pub give-requires : goal.give-requires
give-requires g c =
    let (size, start, content, s) = c.requires.some in
    record {
      live = taken_live _ start.pool c.args.pool.now _ c.in-Some.blocks s.plan.taken
          (sym c.in_ok-blocks.ensures.blocks ∙ c.in-Some.is) (c.free_blocks_are_apart.ensures.free start.pool _)
          (c.marks_are_exact.ensures.live start.pool c.in-Some.blocks);
    }

pub returns-in-Some-clause-pool : goal.returns-in-Some-clause-pool
returns-in-Some-clause-pool g c size start content s =
    c.give.ensures.after
    ∙ taken_given _ start.pool c.args.pool.now _ c.in-Some.blocks s.plan.taken
    (sym c.in_ok-blocks.ensures.blocks ∙ c.in-Some.is) (c.free_blocks_are_apart.ensures.free start.pool _)
    (c.giving_undoes_taking.ensures start.pool c.in-Some.blocks)

pub returns-in-Some-clause-touches : goal.returns-in-Some-clause-touches
returns-in-Some-clause-touches g c size start content s =
    touch_wider _ _ (λ told i nowhere. absurd nowhere) c.abandon.ensures.touches
