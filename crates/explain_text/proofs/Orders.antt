-- Texts that strictly ascend: how they are made, and that their elements tell them.
use Rattle.std.proofs.Common.{◌≡◌, ℕ, Bool, true, List, [], ◌∷◌, map, refl, sym, ap, ap₂, subst, ◌∙◌, ◌⊎◌, inl, inr, true≢false}
use Rattle.std.proofs.Common.{zero, suc, arith, Ordering, Less, Equal, Greater, false, Bor, Result, Ok, Err, length, add-one}
use Rattle.std.specs.Prelude.{Contains, IsPermutation, nat_eq, is_ok, bytes_eq, slice_index_or}
use Rattle.std.specs.Cmp.{tied_itself}
use Rattle.std.specs.Cmp.Lexicographic.{slice_cmp, pointwise, bytes_decides, nat_list_cmp_total, on_texts, on_texts_equal, texts_ties}
use Rattle.std.specs.List.{AllByRecursion, dedup, Any, list_any}
use Rattle.std.specs.List.Retain.{IsFiltered, DiffersFromLast}
use Rattle.std.specs.List.Sorted.{IsSorted, IsSortedBy, IsStrictlySortedBy, IsBinarySearchResult, IsSearchInRange}
use Rattle.std.specs.Ordering.{nat_cmp, is_lt, on, ordering_reverse}
use Rattle.std.proofs.lemmas.Bool.{false≢true}
use Rattle.std.proofs.lemmas.List.Filters.{dedup_is}
use Rattle.std.proofs.lemmas.List.Kept.{IsStrictlySortedBy-dedup, Any-dedup, Contains-from_dedup}
use Rattle.std.proofs.lemmas.List.Sorted.{Contains-permutation, IsPermutation-sym}
use Rattle.constraint_meet.proofs.ValueLemmas.{is_one, is_none_of}
use Rattle.explain_text.specs.Ordered.{AreExactly, lent}
use Rattle.explain_text.proofs.Elements.{contains_first, contains_later, contains_none, contains_map, contains_unmap, element_at, holds_of}
use Rattle.explain_text.proofs.Searched.{is_there, is_nowhere}

abbrev pub cmp : List ℕ → List ℕ → Ordering
cmp = slice_cmp nat_cmp

-- ---- sorted, and each once

module _ {X : Type 0} (f : X → List ℕ) where
  images_above : (t : List ℕ) (xs : List X) → AllByRecursion (λ x. cmp t (f x) ≡ Less) xs
      → AllByRecursion (λ u. cmp t u ≡ Less) (map f xs)
  images_above t [] each = tt
  images_above t (x ∷ xs) each = (each.0, images_above t xs each.1)

  images_ascend : (xs : List X) → IsStrictlySortedBy (on f cmp) xs → IsStrictlySortedBy cmp (map f xs)
  unfolding IsStrictlySortedBy
  images_ascend [] ascend = tt
  images_ascend (x ∷ xs) ascend = (images_above (f x) xs ascend.0, images_ascend xs ascend.1)

  -- what a sort and a `dedup` leave
  pub in_order : (old sorted new : List X) → IsPermutation old sorted → IsSorted (on f cmp) sorted
      → IsFiltered (DiffersFromLast (on f (pointwise nat_eq))) [] sorted new → AreExactly (Contains (map f old)) (map f new)
  in_order old sorted new same ordered filtered = record {
    ascend =
        images_ascend new
        (subst (IsStrictlySortedBy (on f cmp)) (sym is)
        (IsStrictlySortedBy-dedup (on_texts f) (λ x y. texts_ties (f x) (f y)) sorted ordered));
    each = λ t. (
      λ at.
          let found = contains_unmap f new t at in
          let kept = Contains-from_dedup alike sorted found.0 (subst (λ xs. Contains xs found.0) is found.1) in
          subst (Contains (map f old)) found.2
          (contains_map f old found.0 (Contains-permutation sorted old found.0 (IsPermutation-sym old sorted same) kept)),
      λ at.
          let found = contains_unmap f old t at in
          let left = Any-dedup (on_texts_equal f) sorted found.0 (Contains-permutation old sorted found.0 same found.1) in
          by t found.0 found.2 left,
    );
  }
    where
      alike : X → X → Bool
      alike = on f (pointwise nat_eq)

      is : new ≡ dedup alike sorted
      is = dedup_is alike sorted new filtered

      by : (t : List ℕ) (x : X) → f x ≡ t → Any (λ y. alike x y ≡ true) (dedup alike sorted) → Contains (map f new) t
      by t x reads (k, y, within, at, equal) =
          subst (Contains (map f new)) (sym ((bytes_decides (f x) (f y)).0 equal) ∙ reads)
          (contains_map f new y (subst (λ xs. Contains xs y) (sym is) (k, within, at)))

-- ---- a search in what strictly ascends

above_not_below : (t u : List ℕ) → cmp t u ≡ Less → is_lt (cmp u t) ≡ false
above_not_below t u less = turned (cmp u t) (sym (nat_list_cmp_total.antisymm t u) ∙ less)
  where
    turned : (o : Ordering) → ordering_reverse o ≡ Less → is_lt o ≡ false
    turned Less is = absurd (false≢true (ap is_lt is))
    turned Equal is = refl
    turned Greater is = refl

pub ascend_as_images : {X : Type 0} (f : X → List ℕ) (xs : List X) → IsStrictlySortedBy cmp (map f xs)
    → IsSortedBy (λ x y. is_lt (cmp (f x) (f y))) xs
unfolding IsStrictlySortedBy
ascend_as_images f [] ascend k d low high = absurd (omega (arith, high))
ascend_as_images f (x ∷ []) ascend k d low high = absurd (omega (arith, high))
ascend_as_images f (x ∷ y ∷ ys) ascend zero d low high = above_not_below (f x) (f y) ascend.0.0
ascend_as_images f (x ∷ y ∷ ys) ascend (suc k) d low high =
    let later = ascend_as_images f (y ∷ ys) ascend.1 k d (omega arith) (omega (arith, high)) in
    rw (add-one (suc k))
    (subst (λ (j : ℕ). is_lt (cmp (f (slice_index_or (y ∷ ys) j d)) (f (slice_index_or (y ∷ ys) k d))) ≡ false) (add-one k)
    later)

-- whether what ascends has a value
pub search_tells : (ordered : List (Bor (List ℕ))) (values : List (List ℕ)) (value : List ℕ)
    → AreExactly (Contains values) (lent ordered) → (r : Result ℕ ℕ) → IsSearchInRange r (length ordered)
    → IsBinarySearchResult (λ y. cmp y.now value) ordered r
    → is_ok r ≡ list_any (λ one. bytes_eq one value) values
search_tells ordered values value are (Ok place) within equal =
    let it = element_at ordered place within in
    let there = is_there (λ (y : Bor (List ℕ)). y.now) ordered value place it.0 it.1 within equal in
    sym (is_one values value ((are.each value).0
    (subst (Contains (lent ordered)) there.1 (contains_map (λ (y : Bor (List ℕ)). y.now) ordered it.0 there.0))))
search_tells ordered values value are (Err place) within parted =
    sym (is_none_of values value (λ at.
    let found = contains_unmap (λ (y : Bor (List ℕ)). y.now) ordered value ((are.each value).1 at) in
    is_nowhere (λ (y : Bor (List ℕ)). y.now) ordered value place
    (ascend_as_images (λ (y : Bor (List ℕ)). y.now) ordered are.ascend) parted found.0 found.1 found.2))

-- ---- one list

not_below_itself : (t : List ℕ) → cmp t t ≡ Less → ⊥
not_below_itself t less = true≢false (sym (ap is_lt less) ∙ ap is_lt (tied_itself nat_list_cmp_total t))

not_both_below : (t u : List ℕ) → cmp t u ≡ Less → cmp u t ≡ Less → ⊥
not_both_below t u less other = not_below_itself t (nat_list_cmp_total.trans t u t less other)

head_or_tail : {X : Type 0} (y x : X) (ys : List X) → Contains (y ∷ ys) x → (y ≡ x) ⊎ Contains ys x
head_or_tail y x ys (zero, less, is) = inl is
head_or_tail y x ys (suc k, less, is) = inr (k, omega (arith, less), is)

same_lists : (ts us : List (List ℕ)) → IsStrictlySortedBy cmp ts → IsStrictlySortedBy cmp us
    → ((t : List ℕ) → Contains ts t → Contains us t) → ((t : List ℕ) → Contains us t → Contains ts t) → ts ≡ us
unfolding IsStrictlySortedBy
same_lists [] [] ascend ascend' forth back = refl
same_lists [] (u ∷ us) ascend ascend' forth back = absurd (contains_none u (back u (contains_first u us)))
same_lists (t ∷ ts) [] ascend ascend' forth back = absurd (contains_none t (forth t (contains_first t ts)))
same_lists (t ∷ ts) (u ∷ us) ascend ascend' forth back =
    ap₂ (λ (v : List ℕ) (vs : List (List ℕ)). v ∷ vs) first (same_lists ts us ascend.1 ascend'.1 forth' back')
  where
    meet : (u ≡ t) ⊎ Contains us t → (t ≡ u) ⊎ Contains ts u → t ≡ u
    meet (inl is) other = sym is
    meet (inr at) (inl is) = is
    meet (inr at) (inr at') =
        absurd (not_both_below u t (holds_of (λ v. cmp u v ≡ Less) us t ascend'.0 at)
        (holds_of (λ v. cmp t v ≡ Less) ts u ascend.0 at'))

    first : t ≡ u
    first = meet (head_or_tail u t us (forth t (contains_first t ts))) (head_or_tail t u ts (back u (contains_first u us)))

    forth' : (v : List ℕ) → Contains ts v → Contains us v
    forth' v at = by (head_or_tail u v us (forth v (contains_later t v ts at)))
      where
        by : (u ≡ v) ⊎ Contains us v → Contains us v
        by (inl is) =
            absurd (not_below_itself t (subst (λ w. cmp t w ≡ Less) (sym (first ∙ is))
            (holds_of (λ w. cmp t w ≡ Less) ts v ascend.0 at)))
        by (inr later) = later

    back' : (v : List ℕ) → Contains us v → Contains ts v
    back' v at = by (head_or_tail t v ts (back v (contains_later u v us at)))
      where
        by : (t ≡ v) ⊎ Contains ts v → Contains ts v
        by (inl is) =
            absurd (not_below_itself u (subst (λ w. cmp u w ≡ Less) (sym (sym first ∙ is))
            (holds_of (λ w. cmp u w ≡ Less) us v ascend'.0 at)))
        by (inr later) = later

-- the same elements are one list
pub one_list : {P : List ℕ → Type 0} (ts us : List (List ℕ)) → AreExactly P ts → AreExactly P us → ts ≡ us
one_list ts us these those =
    same_lists ts us these.ascend those.ascend (λ t at. (those.each t).1 ((these.each t).0 at))
    (λ t at. (these.each t).1 ((those.each t).0 at))

-- another way to say which they are
pub exactly_also : {P Q : List ℕ → Type 0} (ts : List (List ℕ)) → ((t : List ℕ) → P t → Q t)
    → ((t : List ℕ) → Q t → P t) → AreExactly P ts → AreExactly Q ts
exactly_also ts to from are = record {
  ascend = are.ascend;
  each = λ t. (λ at. to t ((are.each t).0 at), λ q. (are.each t).1 (from t q));
}
