use Rattle.std.proofs.Common.{◌≡◌, ◌++◌, map, length}
use Rattle.der_core.specs.AttributeView.{attribute_view}
use Rattle.explain_text.proofs.sources.push_constrained.Given as goal

-- the attributes so far, and those that are left
abbrev pub invariant-loop-attribute : goal.invariant-loop-attribute
invariant-loop-attribute l =
    map attribute_view l.all.items ++ l.left ≡ map attribute_view l.initial.all.items ++ l.attributes

abbrev pub decreases-loop-attribute : goal.decreases-loop-attribute
decreases-loop-attribute l = length l.left
