use Rattle.std.proofs.Common.{◌≡◌, ◌++◌, ◌+◌, ◌<◌, List, ℕ, [], ◌∷◌, length, take, get_or, ap, sym, ◌∙◌, Bor}
use Rattle.std.specs.List.{flat_map}
use Rattle.std.proofs.lemmas.List.{take_more, append-nil}
use Rattle.std.proofs.lemmas.Grind.{flat_map-append}
use Rattle.der_write.proofs.set.together.Goals as goal

-- the parts so far, and one more
one_more : (parts : List (Bor (List ℕ))) (i : ℕ) (part : Bor (List ℕ)) (all : List ℕ) → i < length parts
    → all ≡ flat_map (λ p. p.now) (take i parts) → all ++ (get_or parts i part).now ≡ flat_map (λ p. p.now) (take (i + 1) parts)
one_more parts i part all within so_far =
    ap (λ (front : List ℕ). front ++ (get_or parts i part).now) so_far
    ∙ ap (λ (last : List ℕ). flat_map (λ p. p.now) (take i parts) ++ last) (sym (append-nil ((get_or parts i part).now)))
    ∙ sym (flat_map-append (λ p. p.now) (take i parts) (get_or parts i part ∷ []))
    ∙ ap (λ (front : List (Bor (List ℕ))). flat_map (λ p. p.now) front) (sym (take_more parts i part within))

pub loop-part-preserved : goal.loop-part-preserved
loop-part-preserved c =
    c.in_ok-extend_from_slice.ensures.items ∙ one_more c.args.parts.now c.loop-part.part-index _ c.loop-part.all.items c.loop-part-test.true c.loop-part.invariant
