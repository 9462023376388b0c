use Rattle.std.proofs.Common.{map, take}
use Rattle.std.specs.List.{flat_map}
use Rattle.der_core.specs.Splitter.{Stands}
use Rattle.der_core.proofs.pieces.split_pieces.Given as goal

abbrev pub invariant-loop-piece : goal.invariant-loop-piece
invariant-loop-piece l =
    Stands l.splitter (flat_map (λ piece. piece.now) (take l.piece-index l.pieces))
    (map (λ item. item.items) l.ended.items) l.item.items
