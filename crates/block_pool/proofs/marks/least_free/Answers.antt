use Rattle.std.proofs.Common.{◌++◌, [], ◌∷◌, length, take, sym, ap, ◌∙◌, arith}
use Rattle.std.proofs.lemmas.Bool.{false≢true}
use Rattle.std.proofs.lemmas.List.{take_all}
use Rattle.std.proofs.lemmas.Grind.{common_steps}
use Rattle.block_pool.proofs.PoolLemmas.{free_block_more, live_block_more, free_front}
use Rattle.block_pool.proofs.marks.least_free.Goals as goal
use Rattle.block_pool.proofs.marks.least_free.Goals.{then-is_free+in_ok-push, else-is_free}

-- the front has as many free numbers as are asked for
pub returns-then-len-n : goal.returns-then-len-n
returns-then-len-n c =
    sym (take_all c.args.n c.loop-block.numbers.items (omega arith))
    ∙ ap (λ l. take c.args.n l) c.loop-block.invariant.numbers
    ∙ free_front c.args.live.now c.loop-block.block c.args.n
    (omega (arith, ap length c.loop-block.invariant.numbers, c.len.ensures, c.if-len-n.true))

pub loop-block-preserved : goal.loop-block-preserved
loop-block-preserved c = elim c.if-is_free.branch [
  | then-is_free+in_ok-push w ↦ record {
    numbers = ap (λ v. v.items) w.numbers-is ∙ w.in_ok-push.ensures.items
        ∙ ap (λ l. l ++ c.loop-block.block ∷ []) c.loop-block.invariant.numbers
        ∙ sym (free_block_more c.args.live.now c.loop-block.block (c.is_free.ensures.0 w.if-is_free.true));
    few = grind (arith, common_steps);
  }
  | else-is_free w ↦ record {
    numbers = ap (λ v. v.items) w.numbers-is ∙ c.loop-block.invariant.numbers
        ∙ sym (live_block_more c.args.live.now c.loop-block.block c.loop-block-test.true
        (λ free. false≢true (sym w.if-is_free.false ∙ c.is_free.ensures.1 free)));
    few = grind (arith, common_steps);
  }
]
