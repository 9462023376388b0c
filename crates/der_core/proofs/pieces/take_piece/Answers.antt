use Rattle.std.proofs.Common.{◌++◌, [], ◌∷◌, List, ℕ, map, take, Vec, Global, refl, sym, ap, ◌∙◌, append_assoc}
use Rattle.std.proofs.lemmas.List.{map-append}
use Rattle.der_core.proofs.Streams.{stands_at, stands_on}
use Rattle.der_core.proofs.pieces.take_piece.Goals as goal

pub returns-in_default : goal.returns-in_default
returns-in_default c stream stands =
    let front = c.loop-rest.invariant.0 in
    let before = c.loop-rest.invariant.2 stream stands in
    let after = stands_on _ (stream ++ c.loop-rest.invariant.0) _ c.loop-rest.item.items c.loop-rest.rest.now
    c.split_step.result c.in_default.not-Ends (c.split_step.ensures.stream _ _ _ before) in
    stands_at _ _ _ _ _ _ _ after
    (append_assoc stream c.loop-rest.invariant.0 c.loop-rest.rest.now
    ∙ ap (λ (x : List ℕ). stream ++ x) (sym c.loop-rest.invariant.1))
    refl
    (sym c.in_ok-extend_from_slice.ensures.items)

pub loop-rest-preserved : goal.loop-rest-preserved
loop-rest-preserved c = (
  c.loop-rest.invariant.0 ++ c.split_at.result.0.now,
  c.loop-rest.invariant.1 ∙ ap (λ (x : List ℕ). c.loop-rest.invariant.0 ++ x) c.split_at.ensures.by_index.0
      ∙ sym (append_assoc c.loop-rest.invariant.0 c.split_at.result.0.now c.split_at.result.1.now),
  λ stream stands.
      let front = c.split_at.ensures.front in
      let after = c.in-Ends.ensures.stream _ _ _ (c.loop-rest.invariant.2 stream stands) in
      let item-is = sym (ap (λ (v : Vec ℕ Global). v.items) c.replace.ensures.value
      ∙ c.in_ok-extend_from_slice-2.ensures.items ∙ ap (λ (x : List ℕ). c.loop-rest.item.items ++ x) front)
      in
      let ended-is = sym (ap (map (λ (v : Vec ℕ Global). v.items)) c.in_ok-push.ensures.items
      ∙ map-append (λ (v : Vec ℕ Global). v.items) c.loop-rest.ended.items (c.replace.result ∷ [])) in
      stands_at _ _ _ _ _ _ _ after
      (append_assoc stream c.loop-rest.invariant.0 (take c.in-Ends.size c.loop-rest.rest.now)
      ∙ ap (λ (x : List ℕ). stream ++ (c.loop-rest.invariant.0 ++ x)) (sym front))
      (ap (λ (x : List ℕ). map (λ (v : Vec ℕ Global). v.items) c.loop-rest.ended.items ++ x ∷ []) item-is ∙ ended-is)
      (sym (ap (λ (v : Vec ℕ Global). v.items) c.replace.ensures.after ∙ c.new.ensures.items)),
)
