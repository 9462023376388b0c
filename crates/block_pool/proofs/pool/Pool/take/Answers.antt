use Rattle.std.proofs.Common.{take, sym, ap, ◌∙◌, subst, List, ℕ, All}
use Rattle.block_pool.specs.Numbers.{IsApart}
use Rattle.block_pool.specs.Pools.{IsFree, free_numbers}
use Rattle.block_pool.proofs.PoolLemmas.{least_apart, least_free}
use Rattle.block_pool.proofs.pool.Pool.take.Goals as goal

-- the numbers are of free blocks of this pool, and none stands twice
pub mark-requires : goal.mark-requires
mark-requires c = λ k d lt.
    let are = c.deref-3.ensures.value ∙ c.in_ok-numbers.ensures
    ∙ ap (λ l. take c.args.n (free_numbers l)) c.deref-2.ensures.value in
    (subst (λ (l : List ℕ). All (IsFree c.self.inside.live.items) l) (sym are)
    (least_free c.self.inside.live.items c.args.n) k d lt).0

pub new-requires : goal.new-requires
new-requires c = subst IsApart
    (sym (c.in_ok-numbers.ensures ∙ ap (λ l. take c.args.n (free_numbers l)) c.deref-2.ensures.value))
    (least_apart c.self.inside.live.items c.args.n)
