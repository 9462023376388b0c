use Rattle.std.proofs.Common.{take, string_bytes}
use Rattle.explain_text.specs.GrantText.{AreLinesOf}
use Rattle.explain_text.specs.Ordered.{Adds, AreTexts}
use Rattle.explain_text.proofs.grant.push_types.Given as goal

-- the lines of the content types so far
abbrev pub invariant-loop-content : goal.invariant-loop-content
invariant-loop-content l =
    Adds (AreTexts (AreLinesOf l.members) (take l.content-index l.types)) (string_bytes l.initial.text)
    (string_bytes l.text)
