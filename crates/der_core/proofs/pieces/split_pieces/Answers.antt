use Rattle.std.proofs.Common.{[], ◌∷◌, eqb, List, ℕ, map, Vec, Global, Bor, sym, ap, ◌∙◌}
use Rattle.std.specs.List.{flat_map}
use Rattle.std.proofs.lemmas.List.{map-append, take_all}
use Rattle.der_core.proofs.Streams.{items_of_splits, items_some, items_none}
use Rattle.der_core.proofs.pieces.split_pieces.Goals.{then-not-is_empty+in_ok-push, else-not-is_empty}
use Rattle.der_core.proofs.pieces.split_pieces.Goals as goal

pub returns : goal.returns
returns c =
    let all = items_of_splits _ _ _ c.loop-piece.invariant.splits in
    let same = ap (flat_map (λ (piece : Bor (List ℕ)). piece.now))
    (take_all c.loop-piece.piece-index c.args.pieces.now c.loop-piece-test.false) in
    let size = ap (λ (n : ℕ). eqb n 0) (sym c.loop-piece.item.ok.0) in
    elim c.if-not-is_empty.branch [
      | then-not-is_empty+in_ok-push w ↦
          let is = ap (λ (v : Vec (Vec ℕ Global) Global). map (λ (item : Vec ℕ Global). item.items) v.items)
          w.ended-is
          ∙ ap (map (λ (item : Vec ℕ Global). item.items)) w.in_ok-push.ensures.items
          ∙ map-append (λ (item : Vec ℕ Global). item.items) c.loop-piece.ended.items (c.loop-piece.item ∷ []) in
          record {
            items = items_some _ _ _ _ c.loop-piece.item.items same all
                (size ∙ sym c.is_empty.ensures ∙ w.if-not-is_empty.true) is;
          }
      | else-not-is_empty w ↦
          let is = ap (λ (v : Vec (Vec ℕ Global) Global). map (λ (item : Vec ℕ Global). item.items) v.items)
          w.ended-is in
          record {
            items = items_none _ _ _ _ c.loop-piece.item.items same all
                (size ∙ sym c.is_empty.ensures ∙ w.if-not-is_empty.false) is;
          }
    ]
