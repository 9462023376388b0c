use Rattle.std.proofs.Common.{◌≡◌, take}
use Rattle.std.specs.List.{flat_map}
use Rattle.constraint_meet.specs.Permits.{values_in}
use Rattle.explain_text.specs.Ordered.{lent}
use Rattle.explain_text.proofs.values.values_of.Given as goal

-- the values of the lists so far
abbrev pub invariant-loop-one : goal.invariant-loop-one
invariant-loop-one l = lent l.values.items ≡ flat_map (λ a. values_in a.values) (take l.one-index l.listed)
