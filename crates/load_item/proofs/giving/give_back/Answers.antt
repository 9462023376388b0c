use Rattle.std.proofs.Common.{ℕ, List, Option, Some, subst, ◌∙◌}
use Rattle.content_stream.specs.Plans.{TakesBlocks}
use Rattle.content_stream.specs.declared.content_stream.Streamed.{Streamed}
use Rattle.load_item.specs.Answers.{GivesBack}
use Rattle.load_item.proofs.HeldLemmas.{taken_given, taken_live}
use Rattle.load_item.proofs.giving.give_back.Goals as goal

pub give-requires : goal.give-requires
give-requires c =
    let (before, gives) = c.requires.taken in
    let there : GivesBack before c.args.pool.now (Some c.in-Some.streamed) =
    subst (λ (o : Option Streamed). GivesBack before c.args.pool.now o) c.in-Some.is gives in
    record {
      live = taken_live c.free_blocks_are_apart.ensures.free c.marks_are_exact.ensures.live c.giving_undoes_taking.ensures
          there.0 before c.args.pool.now c.in-Some-blocks.blocks
          (subst (λ (o : Option (List ℕ)). TakesBlocks there.0 before c.args.pool.now o) c.in-Some-blocks.is there.1);
    }

pub returns-in-Some-blocks : goal.returns-in-Some-blocks
returns-in-Some-blocks c = record {
  pool = λ before gives.
      let there : GivesBack before c.args.pool.now (Some c.in-Some.streamed) =
      subst (λ (o : Option Streamed). GivesBack before c.args.pool.now o) c.in-Some.is gives in
      c.give.ensures.after
      ∙ taken_given c.free_blocks_are_apart.ensures.free c.marks_are_exact.ensures.live c.giving_undoes_taking.ensures
      there.0 before c.args.pool.now c.in-Some-blocks.blocks
      (subst (λ (o : Option (List ℕ)). TakesBlocks there.0 before c.args.pool.now o) c.in-Some-blocks.is there.1);
}
