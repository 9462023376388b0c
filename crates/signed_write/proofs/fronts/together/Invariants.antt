use Rattle.std.proofs.Common.{◌≡◌, take}
use Rattle.std.specs.List.{flat_map}
use Rattle.signed_write.proofs.fronts.together.Given as goal

-- the parts so far stand one after the other
abbrev pub invariant-loop-part : goal.invariant-loop-part
invariant-loop-part l = l.all.items ≡ flat_map (λ part. part.items) (take l.part-index l.parts)
