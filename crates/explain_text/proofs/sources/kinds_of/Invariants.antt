use Rattle.std.proofs.Common.{◌≡◌, map, take}
use Rattle.explain_text.proofs.sources.kinds_of.Given as goal

-- the types so far
abbrev pub invariant-loop-attribute : goal.invariant-loop-attribute
invariant-loop-attribute l = l.kinds.items ≡ map (λ a. a.kind) (take l.attribute-index l.attributes)
