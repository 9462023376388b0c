use Rattle.std.proofs.Common.{◌≡◌, ◌++◌, List, ℕ, length, map}
use Rattle.explain_text.proofs.hardware.push_types.Given as goal

-- the types so far, and those that are left
abbrev pub invariant-loop-id : goal.invariant-loop-id
invariant-loop-id l =
    l.keys.items ++ map (λ (id : List ℕ). (id, l.place)) l.left
    ≡ l.initial.keys.items ++ map (λ (id : List ℕ). (id, l.place)) l.initial.left

abbrev pub decreases-loop-id : goal.decreases-loop-id
decreases-loop-id l = length l.left
