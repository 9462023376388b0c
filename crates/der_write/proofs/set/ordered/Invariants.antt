use Rattle.std.proofs.Common.{◌≡◌, map, take}
use Rattle.der_write.proofs.set.ordered.Given as goal

-- the parts so far, in the order in which they came
abbrev pub invariant-loop-part : goal.invariant-loop-part
invariant-loop-part l =
    map (λ part. part.now) l.order.items ≡ map (λ part. part.items) (take l.part-index l.parts)
