use Rattle.std.proofs.Common.{◌≡◌, length, map, take}
use Rattle.der_core.specs.AttributeView.{attribute_view}
use Rattle.explain_text.proofs.memo.are_same.Given as goal

-- they are the same so far
abbrev pub invariant-loop-place : goal.invariant-loop-place
invariant-loop-place l =
    (length l.these ≡ length l.those)
    × (map attribute_view (take l.place l.these) ≡ map attribute_view (take l.place l.those))
