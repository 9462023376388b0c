use Rattle.std.proofs.Common.{◌≡◌, List, ℕ, ap, sym, ◌∙◌, map, Bor, Vec, Global, Result, Ok, Err}
use Rattle.std.specs.Prelude.{IfOk}
use Rattle.std.specs.List.{concat, flat_map}
use Rattle.std.proofs.lemmas.List.Concat.{concat_is}
use Rattle.std.proofs.lemmas.List.Folds.{flat_map-map}
use Rattle.der_write.specs.Sets.{Ascends, IsSetContents}
use Rattle.der_write.proofs.set.sorted_contents.Goals as goal

-- the slices one after the other are their octets one after the other
of_slices : (order : List (Bor (List ℕ))) → concat (map (λ part. part.now) order) ≡ flat_map (λ part. part.now) order
of_slices order =
    concat_is (map (λ part. part.now) order) ∙ flat_map-map (λ (part : List ℕ). part) (λ (part : Bor (List ℕ)). part.now) order

-- slices one after the other, which ascend as their octets do
set_of : {E : Type 0} (parts : List (List ℕ)) (slices order : List (Bor (List ℕ))) (result : Result (Vec ℕ Global) E)
    → Ascends parts (map (λ part. part.now) order) → slices ≡ order
    → IfOk result (λ all. all.items ≡ flat_map (λ part. part.now) slices)
    → IfOk result (λ all. IsSetContents parts all.items)
set_of parts slices order (Ok all) ascends same is = (
  map (λ part. part.now) order,
  ascends,
  is ∙ ap (λ (parts : List (Bor (List ℕ))). flat_map (λ part. part.now) parts) same ∙ sym (of_slices order),
)
set_of parts slices order (Err e) ascends same is = tt

pub returns : goal.returns
returns c = record {
  ok = set_of _ c.deref.result.now c.in_ok-order.order.items c.together.result c.in_ok-order.ensures
      c.deref.ensures.value c.together.ensures;
}
