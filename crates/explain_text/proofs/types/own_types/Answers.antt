use Rattle.explain_text.proofs.Orders.{exactly_also}
use Rattle.explain_text.proofs.types.own_types.Goals as goal

pub returns : goal.returns
returns c =
    exactly_also c.put_types_in_order.new.types.items (λ content. (c.in_ok-types.ensures content).0)
    (λ content. (c.in_ok-types.ensures content).1) c.put_types_in_order.ensures
