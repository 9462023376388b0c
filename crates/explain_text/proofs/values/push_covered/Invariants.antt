use Rattle.std.proofs.Common.{◌≡◌, ◌++◌, take, string_bytes}
use Rattle.std.specs.List.{filter, flat_map, list_all}
use Rattle.constraint_meet.specs.Tests.{is_covered}
use Rattle.explain_text.specs.GrantText.{value_text}
use Rattle.explain_text.specs.Ordered.{lent}
use Rattle.explain_text.proofs.values.push_covered.Given as goal

-- those of the values so far that all cover
abbrev pub invariant-loop-value : goal.invariant-loop-value
invariant-loop-value l =
    string_bytes l.text ≡ string_bytes l.initial.text ++ flat_map value_text
    (filter (λ value. list_all (λ a. is_covered a value) l.listed) (lent (take l.value-index l.values)))
