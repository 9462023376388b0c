use Rattle.std.proofs.Common.{map, take, string_bytes}
use Rattle.der_core.specs.AttributeView.{attribute_view}
use Rattle.explain_text.specs.GrantText.{IsKindLine}
use Rattle.explain_text.specs.Ordered.{Adds, AreTexts}
use Rattle.explain_text.proofs.grant.push_each_kind.Given as goal

-- the lines of the types so far
abbrev pub invariant-loop-kind : goal.invariant-loop-kind
invariant-loop-kind l =
    Adds (AreTexts (IsKindLine (map attribute_view l.attributes)) (take l.kind-index l.kinds))
    (string_bytes l.initial.text) (string_bytes l.text)
