use Rattle.std.proofs.Common.{◌≡◌, take}
use Rattle.explain_text.specs.Keys.{versions_in}
use Rattle.explain_text.specs.Ordered.{lent}
use Rattle.explain_text.proofs.versions.versions_of.Given as goal

-- those of the values so far
abbrev pub invariant-loop-value : goal.invariant-loop-value
invariant-loop-value l = l.keys.items ≡ versions_in (lent (take l.value-index l.values))
