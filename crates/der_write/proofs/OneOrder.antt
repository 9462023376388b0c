-- Lists of octets that ascend and have the same elements are one list.
use Rattle.std.proofs.Common.{◌≡◌, ℕ, suc, List, [], ◌∷◌, Bool, true, false, cond, refl, sym, ap, ap₂, ◌∙◌, arith, add-one}
use Rattle.std.proofs.Common.{Ordering, Less, Equal, Greater}
use Rattle.std.specs.List.{AllByRecursion, sum_by}
use Rattle.std.specs.List.Sorted.{IsSorted, IsPermutation}
use Rattle.std.specs.Ordering.{nat_cmp, is_lt, is_gt, is_eq, ordering_reverse}
use Rattle.std.specs.Cmp.{upto, tied_itself}
use Rattle.std.specs.Cmp.Lexicographic.{slice_cmp, nat_list_cmp_total}
use Rattle.std.proofs.lemmas.List.Sorted.{sum_by-IsPermutation}
use Rattle.std.proofs.lemmas.List.Sums.{sum_by-cons}
use native.Mathlib.Numerals.{unary_clauses}
use Rattle.std.proofs.lemmas.Map.Text.{is_eq-slice_cmp}
use Rattle.std.proofs.lemmas.Slice.Eq.{bytes_eq-Decides}

abbrev compared : List ℕ → List ℕ → Ordering
compared x y = slice_cmp nat_cmp x y

-- x is no greater than y
abbrev IsUpTo : List ℕ → List ℕ → Type 0
IsUpTo x y = is_gt (compared x y) ≡ false

not_less : (x y : List ℕ) → is_lt (compared y x) ≡ false → IsUpTo x y
not_less x y h = ap is_gt (nat_list_cmp_total.antisymm x y) ∙ turned (compared y x) h
  where
    turned : (o : Ordering) → is_lt o ≡ false → is_gt (ordering_reverse o) ≡ false
    turned Less h = h
    turned Equal h = refl
    turned Greater h = refl

both_ways : (x y : List ℕ) → IsUpTo x y → IsUpTo y x → x ≡ y
both_ways x y h k =
    (bytes_eq-Decides x y).0 (sym (is_eq-slice_cmp x y) ∙ level (compared x y) h
    (sym (ap is_gt (nat_list_cmp_total.antisymm y x)) ∙ k))
  where
    level : (o : Ordering) → is_gt o ≡ false → is_gt (ordering_reverse o) ≡ false → is_eq o ≡ true
    level Less h k = sym k
    level Equal h k = refl
    level Greater h k = sym h

-- ---- what ascends has its least first

sorted_tail : (x : List ℕ) (xs : List (List ℕ)) → IsSorted (slice_cmp nat_cmp) (x ∷ xs) → IsSorted (slice_cmp nat_cmp) xs
sorted_tail x xs sorted k d low within =
    let h = sorted (suc k) d (omega arith) (omega (arith, within)) in rw (add-one k) (simp unary_clauses at h)

least_first : (x : List ℕ) (xs : List (List ℕ)) → IsSorted (slice_cmp nat_cmp) (x ∷ xs) → AllByRecursion (IsUpTo x) (x ∷ xs)
least_first x [] sorted = (ap is_gt (tied_itself nat_list_cmp_total x), tt)
least_first x (y ∷ ys) sorted =
    let next : IsUpTo x y = not_less x y (sorted 0 x (omega arith) (omega arith)) in
    (ap is_gt (tied_itself nat_list_cmp_total x), behind x y (y ∷ ys) next (least_first y ys (sorted_tail x (y ∷ ys) sorted)))
  where
    behind : (x y : List ℕ) (ys : List (List ℕ)) → IsUpTo x y → AllByRecursion (IsUpTo y) ys → AllByRecursion (IsUpTo x) ys
    behind x y [] next all = tt
    behind x y (z ∷ zs) next all = (upto nat_list_cmp_total x y z next all.0, behind x y zs next all.1)

-- ---- the same elements, counted

-- 1 for a text that x is greater than
unfoldable above : List ℕ → List ℕ → ℕ
above x y = cond (is_gt (compared x y)) 1 0

not_above : (x y : List ℕ) → IsUpTo x y → above x y ≡ 0
unfolding above
not_above x y h = rw h refl

is_above : (x y : List ℕ) → is_gt (compared x y) ≡ true → above x y ≡ 1
unfolding above
is_above x y h = rw h refl

none_above : (x : List ℕ) (ys : List (List ℕ)) → AllByRecursion (IsUpTo x) ys → sum_by (above x) ys ≡ 0
none_above x [] all = refl
none_above x (y ∷ ys) all =
    omega (arith, sum_by-cons (above x) y ys, not_above x y all.0, none_above x ys all.1)

first_up_to : (x y : List ℕ) (ys : List (List ℕ)) → sum_by (above x) (y ∷ ys) ≡ 0 → IsUpTo x y
first_up_to x y ys none = by_case (is_gt (compared x y)) refl
  where
    by_case : (b : Bool) → is_gt (compared x y) ≡ b → is_gt (compared x y) ≡ false
    by_case false is = is
    by_case true is = absurd (omega (arith, none, sum_by-cons (above x) y ys, is_above x y is))

-- one list, where every sum over the elements is the same
one_list : (xs ys : List (List ℕ)) → ((f : List ℕ → ℕ) → sum_by f ys ≡ sum_by f xs) → IsSorted (slice_cmp nat_cmp) xs
    → IsSorted (slice_cmp nat_cmp) ys → xs ≡ ys
one_list [] [] same sorted sorted' = refl
one_list [] (y ∷ ys) same sorted sorted' = absurd (omega (arith, same (λ _. 1), sum_by-cons (λ (_ : List ℕ). 1) y ys))
one_list (x ∷ xs) [] same sorted sorted' = absurd (omega (arith, same (λ _. 1), sum_by-cons (λ (_ : List ℕ). 1) x xs))
one_list (x ∷ xs) (y ∷ ys) same sorted sorted' =
    let up = first_up_to x y ys (same (above x) ∙ none_above x (x ∷ xs) (least_first x xs sorted)) in
    let down = first_up_to y x xs (sym (same (above y)) ∙ none_above y (y ∷ ys) (least_first y ys sorted')) in
    let first = both_ways x y up down in
    let rest = one_list xs ys (λ f. omega (arith, same f, ap f first, sum_by-cons f x xs, sum_by-cons f y ys)) (sorted_tail x xs sorted) (sorted_tail y ys sorted') in
    ap₂ (λ (z : List ℕ) (zs : List (List ℕ)). z ∷ zs) first rest

pub one_order : (xs ys : List (List ℕ)) → IsPermutation xs ys → IsSorted (slice_cmp nat_cmp) xs
    → IsSorted (slice_cmp nat_cmp) ys → xs ≡ ys
one_order xs ys same sorted sorted' = one_list xs ys (λ f. sum_by-IsPermutation f xs ys same) sorted sorted'
