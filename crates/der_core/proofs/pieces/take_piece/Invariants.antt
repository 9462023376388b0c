use Rattle.std.proofs.Common.{◌≡◌, ◌++◌, List, ℕ, map, length}
use Rattle.der_core.specs.Splitter.{Stands}
use Rattle.der_core.proofs.pieces.take_piece.Given as goal

-- the piece up to its rest has moved the splitter on
abbrev pub invariant-loop-rest : goal.invariant-loop-rest
invariant-loop-rest l =
    (front : List ℕ)
    × (l.piece ≡ front ++ l.rest)
    × ((stream : List ℕ) → Stands l.initial.splitter stream
    (map (λ item. item.items) l.initial.ended.items) l.initial.item.items
    → Stands l.splitter (stream ++ front) (map (λ item. item.items) l.ended.items) l.item.items)

abbrev pub decreases-loop-rest : goal.decreases-loop-rest
decreases-loop-rest l = length l.rest
