use Rattle.std.proofs.Common.{◌≡◌, ℕ, ◌+◌, ◌<◌, List, [], ◌∷◌, ◌++◌, length, map, get_or, take, refl, sym, ap, ◌∙◌, subst, arith, Vec, Global, Bor}
use Rattle.std.specs.Ordering.{nat_cmp}
use Rattle.std.specs.Cmp.Lexicographic.{slice_cmp}
use Rattle.std.specs.List.Sorted.{IsSorted, IsPermutation}
use Rattle.std.proofs.lemmas.List.{map_more, take_all, map-append, length-map, get_or-map}
use Rattle.std.proofs.lemmas.List.Sorted.{IsPermutation-map}
use Rattle.der_write.proofs.set.ordered.Goals as goal

-- the parts so far, and one more
one_more : (parts : List (Vec ℕ Global)) (order : List (Bor (List ℕ))) (part : Vec ℕ Global) (lent : Bor (List ℕ)) (i : ℕ)
    → i < length parts → get_or parts i part ≡ part → lent.now ≡ part.items → map (λ p. p.now) order ≡ map (λ p. p.items) (take i parts)
    → map (λ p. p.now) (order ++ lent ∷ []) ≡ map (λ p. p.items) (take (i + 1) parts)
one_more parts order part lent i within is reads so_far =
    map-append (λ p. p.now) order (lent ∷ [])
    ∙ ap (λ (front : List (List ℕ)). front ++ lent.now ∷ []) so_far
    ∙ ap (λ (octets : List ℕ). map (λ p. p.items) (take i parts) ++ octets ∷ []) (reads ∙ ap (λ (p : Vec ℕ Global). p.items) (sym is))
    ∙ sym (map_more (λ (p : Vec ℕ Global). p.items) parts i part within)

-- what is sorted as slices is sorted as lists
sorted_lists : (order : List (Bor (List ℕ))) → IsSorted (λ x y. slice_cmp nat_cmp x.now y.now) order → IsSorted (slice_cmp nat_cmp) (map (λ p. p.now) order)
sorted_lists [] sorted k other low within = absurd (omega (arith, within))
sorted_lists (first ∷ rest) sorted k other low within =
    let order = first ∷ rest in
    let long : length (map (λ (p : Bor (List ℕ)). p.now) order) ≡ length order = simp length-map refl in
    rw (get_or-map (λ (p : Bor (List ℕ)). p.now) order (k + 1) first other (omega (arith, within, long)))
    (rw (get_or-map (λ (p : Bor (List ℕ)). p.now) order k first other (omega (arith, within, long))) (sorted k first low (omega (arith, within, long))))

pub loop-part-preserved : goal.loop-part-preserved
loop-part-preserved c =
    ap (λ (lent : List (Bor (List ℕ))). map (λ p. p.now) lent) c.in_ok-push.ensures.items
    ∙ one_more c.args.parts.now c.loop-part.order.items c.part-item.result c.as_slice.result c.loop-part.part-index c.loop-part-test.true (sym c.part-item.is) c.as_slice.ensures.value c.loop-part.invariant

pub returns : goal.returns
returns c =
    let parts = c.args.parts.now in
    let all = c.loop-part.invariant ∙ ap (λ (front : List (Vec ℕ Global)). map (λ p. p.items) front) (take_all c.loop-part.part-index parts (omega arith)) in
    record {
      same = subst (λ (lists : List (List ℕ)). IsPermutation lists (map (λ p. p.now) c.sort.new.self.items)) all (IsPermutation-map (λ (p : Bor (List ℕ)). p.now) _ _ c.sort.ensures.permutation);
      ascending = sorted_lists c.sort.new.self.items c.in_ok-sort.ensures.sorted;
    }
