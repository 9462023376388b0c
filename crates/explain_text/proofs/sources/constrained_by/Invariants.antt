use Rattle.std.proofs.Common.{◌≡◌, ◌++◌, map, drop, option_map}
use Rattle.der_core.specs.AttributeView.{attribute_view}
use Rattle.explain_text.specs.Granted.{sources_of, constrained_by}
use Rattle.explain_text.proofs.sources.constrained_by.Given as goal

-- those of the members so far, and then those of the members that are left
abbrev pub invariant-loop-member : goal.invariant-loop-member
invariant-loop-member l =
    option_map constrained_by (sources_of l.content l.members)
    ≡ option_map (λ more. map attribute_view l.all.items ++ constrained_by more)
    (sources_of l.content (drop l.member-index l.members))
