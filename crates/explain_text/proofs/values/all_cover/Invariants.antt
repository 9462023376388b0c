use Rattle.std.proofs.Common.{◌≡◌, drop}
use Rattle.std.specs.List.{list_all}
use Rattle.constraint_meet.specs.Tests.{is_covered}
use Rattle.explain_text.proofs.values.all_cover.Given as goal

-- all cover the value exactly where those that are left do
abbrev pub invariant-loop-one : goal.invariant-loop-one
invariant-loop-one l =
    list_all (λ a. is_covered a l.value) l.listed ≡ list_all (λ a. is_covered a l.value) (drop l.one-index l.listed)
