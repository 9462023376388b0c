use Rattle.explain_text.proofs.Orders.{in_order}
use Rattle.explain_text.proofs.ordered.put_in_order.Goals as goal

pub returns : goal.returns
returns c =
    in_order (λ slice. slice.now) _ _ _ c.sort_unstable.ensures.permutation c.sort_unstable.ensures.sorted
    c.dedup.ensures.filtered
