use Rattle.std.proofs.Common.{take, sym, ap, ◌∙◌, subst, List, Bool, true, false, get_or, set}
use Rattle.std.proofs.lemmas.Bool.{false≢true}
use Rattle.std.proofs.lemmas.List.{length-set}
use Rattle.block_pool.specs.Pools.{IsFree, marked}
use Rattle.block_pool.proofs.PoolLemmas.{held_marked, held_free, held_apart, not_held, unmark}
use Rattle.block_pool.proofs.marks.mark_free.Goals as goal

pub returns-then-not-is_free-clause-held : goal.returns-then-not-is_free-clause-held
returns-then-not-is_free-clause-held c = (
  λ no. absurd (false≢true no),
  λ all. absurd (not_held c.args.numbers.now c.loop-i.i c.args.live.now.items c.loop-i.live.items
      c.loop-i-test.true c.loop-i.invariant.marked
      (λ free. false≢true (sym c.if-not-is_free.true ∙ c.is_free.ensures.1
      (subst (λ (l : List Bool). IsFree l (get_or c.args.numbers.now c.loop-i.i 0)) (sym c.deref.ensures.value) free)))
      all.0 all.1),
)

pub returns-then-not-is_free-clause-after : goal.returns-then-not-is_free-clause-after
returns-then-not-is_free-clause-after c =
    c.mark.ensures.marked
    ∙ ap (λ l. marked false (take c.loop-i.i c.args.numbers.now) l) c.loop-i.invariant.marked
    ∙ unmark (take c.loop-i.i c.args.numbers.now) c.args.live.now.items c.loop-i.invariant.free

pub loop-i-preserved : goal.loop-i-preserved
loop-i-preserved c =
    let free : IsFree c.loop-i.live.items (get_or c.args.numbers.now c.loop-i.i 0) =
    subst (λ (l : List Bool). IsFree l (get_or c.args.numbers.now c.loop-i.i 0)) c.deref.ensures.value
    (c.is_free.ensures.0 c.if-not-is_free.false) in
    record {
      marked = ap (λ n. set c.loop-i.live.items n true) c.from.ensures
          ∙ held_marked c.args.numbers.now c.loop-i.i c.args.live.now.items c.loop-i.live.items c.loop-i-test.true c.loop-i.invariant.marked;
      size = length-set c.loop-i.live.items c.from.result true ∙ c.loop-i.invariant.size;
      free = held_free c.args.numbers.now c.loop-i.i c.args.live.now.items c.loop-i.live.items c.loop-i-test.true c.loop-i.invariant.marked free c.loop-i.invariant.free;
      apart = held_apart c.args.numbers.now c.loop-i.i c.args.live.now.items c.loop-i.live.items c.loop-i-test.true c.loop-i.invariant.marked free c.loop-i.invariant.apart;
    }
