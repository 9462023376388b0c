-- Attributes that are put in order: the same ones, in ascending order of their octets.
use Rattle.std.proofs.Common.{◌≡◌, ℕ, zero, suc, ◌+◌, Bool, true, false, cond, List, [], ◌∷◌, map, get_or, refl, sym, ap, subst, ◌∙◌, arith}
use Rattle.std.proofs.Common.{Ordering, Less, Equal, Greater, IsPermutation, IsSorted}
use Rattle.std.specs.Ordering.{nat_cmp, is_lt, ordering_reverse}
use Rattle.std.specs.Cmp.Lexicographic.{slice_cmp, nat_list_cmp_total}
use Rattle.std.proofs.lemmas.List.Concat.{concat_is}
use Rattle.std.proofs.lemmas.List.Folds.{flat_map-map}
use Rattle.std.proofs.lemmas.List.Sorted.{IsPermutation-refl, IsPermutation-trans, IsPermutation-cons, IsPermutation-middle, IsPermutation-map}
use Rattle.der_core.specs.Attribute.{Attribute, attribute_text}
use Rattle.der_write.specs.Sets.{IsSetContents}
use Rattle.attribute_set.specs.AttributeSet.{set_contents}
use Rattle.signed_write.specs.Orders.{is_before, placed, in_order}

-- ---- the same attributes

placed_same : (a : Attribute) (others : List Attribute) → IsPermutation (a ∷ others) (placed a others)
placed_same a [] = IsPermutation-refl (a ∷ [])
placed_same a (b ∷ others) = by_case (is_before b a) (placed_same a others)
  where
    by_case : (before : Bool) → IsPermutation (a ∷ others) (placed a others)
        → IsPermutation (a ∷ (b ∷ others)) (cond before (b ∷ placed a others) (a ∷ (b ∷ others)))
    by_case true more =
        IsPermutation-trans (a ∷ (b ∷ others)) (b ∷ (a ∷ others)) (b ∷ placed a others)
        (IsPermutation-middle (a ∷ []) b others) (IsPermutation-cons b (a ∷ others) (placed a others) more)
    by_case false more = IsPermutation-refl (a ∷ (b ∷ others))

pub in_order_same : (attributes : List Attribute) → IsPermutation attributes (in_order attributes)
in_order_same [] = IsPermutation-refl []
in_order_same (a ∷ others) =
    IsPermutation-trans (a ∷ others) (a ∷ in_order others) (placed a (in_order others))
    (IsPermutation-cons a others (in_order others) (in_order_same others)) (placed_same a (in_order others))

-- ---- in order

-- none is before the one in front of it
abbrev Rises : List Attribute → Type 0
Rises [] = Unit {0}
Rises (a ∷ []) = Unit {0}
Rises (a ∷ (b ∷ others)) = (is_before b a ≡ false) × Rises (b ∷ others)

not_both : (a b : Attribute) → is_before a b ≡ true → is_before b a ≡ false
not_both a b h =
    ap is_lt (nat_list_cmp_total.antisymm (attribute_text b) (attribute_text a))
    ∙ turned (slice_cmp nat_cmp (attribute_text a) (attribute_text b)) h
  where
    turned : (o : Ordering) → is_lt o ≡ true → is_lt (ordering_reverse o) ≡ false
    turned Less h = refl
    turned Equal h = refl
    turned Greater h = sym h

rises_on : (b : Attribute) (others : List Attribute) → Rises (b ∷ others) → Rises others
rises_on b [] rises = tt
rises_on b (c ∷ others) rises = rises.1

-- in front of others stands what none of them is before
in_front : (b a : Attribute) (others : List Attribute) → is_before a b ≡ false → Rises (b ∷ others)
    → Rises (placed a others) → Rises (b ∷ placed a others)
in_front b a [] up rises more = (up, more)
in_front b a (c ∷ others) up rises more = by_case (is_before c a) more
  where
    by_case : (before : Bool) → Rises (cond before (c ∷ placed a others) (a ∷ (c ∷ others)))
        → Rises (b ∷ cond before (c ∷ placed a others) (a ∷ (c ∷ others)))
    by_case true more = (rises.0, more)
    by_case false more = (up, more)

placed_rises : (a : Attribute) (others : List Attribute) → Rises others → Rises (placed a others)
placed_rises a [] rises = tt
placed_rises a (b ∷ others) rises = by_case (is_before b a) refl (placed_rises a others (rises_on b others rises))
  where
    by_case : (before : Bool) → is_before b a ≡ before → Rises (placed a others)
        → Rises (cond before (b ∷ placed a others) (a ∷ (b ∷ others)))
    by_case true is more = in_front b a others (not_both b a is) rises more
    by_case false is more = (is, rises)

in_order_rises : (attributes : List Attribute) → Rises (in_order attributes)
in_order_rises [] = tt
in_order_rises (a ∷ others) = placed_rises a (in_order others) (in_order_rises others)

rising_sorted : (attributes : List Attribute) → Rises attributes
    → IsSorted (slice_cmp nat_cmp) (map attribute_text attributes)
rising_sorted [] rises k d low within = absurd (omega (arith, within))
rising_sorted (a ∷ []) rises k d low within = absurd (omega (arith, within))
rising_sorted (a ∷ (b ∷ others)) rises zero d low within = rises.0
rising_sorted (a ∷ (b ∷ others)) rises (suc k) d low within =
    let texts = map attribute_text (a ∷ (b ∷ others)) in
    let h = rising_sorted (b ∷ others) rises.1 k d (omega arith) (omega (arith, within)) in
    let next : suc (k + 1) ≡ suc k + 1 = omega arith in
    subst (λ (n : ℕ). is_lt (slice_cmp nat_cmp (get_or texts n d) (get_or texts (suc k) d)) ≡ false) next h

pub in_order_sorted : (attributes : List Attribute) → IsSorted (slice_cmp nat_cmp) (map attribute_text (in_order attributes))
in_order_sorted attributes = rising_sorted (in_order attributes) (in_order_rises attributes)

-- ---- their set

-- in order they are the contents of the SET OF their texts
pub in_order_contents : (attributes : List Attribute)
    → IsSetContents (map attribute_text attributes) (set_contents (in_order attributes))
in_order_contents attributes = (
  map attribute_text (in_order attributes),
  record {
    same = IsPermutation-map attribute_text attributes (in_order attributes) (in_order_same attributes);
    ascending = in_order_sorted attributes;
  },
  sym (concat_is (map attribute_text (in_order attributes))
      ∙ flat_map-map (λ (text : List ℕ). text) attribute_text (in_order attributes)),
)
