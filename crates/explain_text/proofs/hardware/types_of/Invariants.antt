use Rattle.std.proofs.Common.{◌≡◌, ◌++◌, drop}
use Rattle.explain_text.specs.Keys.{types_from}
use Rattle.explain_text.specs.Ordered.{lent}
use Rattle.explain_text.proofs.hardware.types_of.Given as goal

-- those of the values so far, and of those that are left
abbrev pub invariant-loop-value : goal.invariant-loop-value
invariant-loop-value l =
    (l.place ≡ l.value-index)
    × (l.keys.items ++ types_from l.place (drop l.place (lent l.values)) ≡ types_from 0 (lent l.values))
