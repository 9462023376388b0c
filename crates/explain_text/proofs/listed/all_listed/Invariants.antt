use Rattle.std.proofs.Common.{◌≡◌, map, take}
use Rattle.der_core.specs.AttributeView.{attribute_view}
use Rattle.constraint_meet.specs.Permits.{AreOfOctets}
use Rattle.explain_text.proofs.listed.all_listed.Given as goal

-- the attributes so far
abbrev pub invariant-loop-attribute : goal.invariant-loop-attribute
invariant-loop-attribute l =
    (l.all.items ≡ map attribute_view (take l.attribute-index l.attributes))
    × AreOfOctets (map attribute_view (take l.attribute-index l.attributes))
