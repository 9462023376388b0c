-- What a search among elements in the order of their octets says.
use Rattle.std.proofs.Common.{◌≡◌, ◌<◌, ℕ, List, length, Err, false}
use Rattle.std.proofs.Common.{refl, sym, ap, subst, ◌∙◌, arith, Ordering, Less, Equal, Greater, inl, inr, true≢false}
use Rattle.std.specs.Prelude.{Contains, slice_index_or}
use Rattle.std.specs.Ordering.{nat_cmp, is_eq, is_lt}
use Rattle.std.specs.Cmp.Lexicographic.{slice_cmp, nat_list_cmp_total}
use Rattle.std.specs.List.Sorted.{IsSortedBy, IsBinarySearchResult, IsPartitionPoint}
use Rattle.std.proofs.lemmas.Bool.{cases_lt}
use Rattle.std.proofs.lemmas.Map.Text.{is_eq-slice_cmp}
use Rattle.std.proofs.lemmas.Slice.Eq.{bytes_eq-Decides}
use Rattle.constraint_meet.proofs.Searches.{not_falling}

pub cmp_same : (a b : List ℕ) → slice_cmp nat_cmp a b ≡ Equal → a ≡ b
cmp_same a b equal = (bytes_eq-Decides a b).0 (sym (is_eq-slice_cmp a b) ∙ ap is_eq equal)

module _ {X : Type 0} (f : X → List ℕ) (xs : List X) (key : List ℕ) where
  pub is_there : (place : ℕ) (x : X) → slice_index_or xs place x ≡ x → place < length xs
      → ((d : X) → slice_cmp nat_cmp (f (slice_index_or xs place d)) key ≡ Equal) → Contains xs x × (f x ≡ key)
  is_there place x is within equal =
      ((place, within, is), cmp_same (f x) key (subst (λ y. slice_cmp nat_cmp (f y) key ≡ Equal) is (equal x)))

  pub is_nowhere : (place : ℕ) → IsSortedBy (λ x y. is_lt (slice_cmp nat_cmp (f x) (f y))) xs
      → IsBinarySearchResult (λ x. slice_cmp nat_cmp (f x) key) xs (Err place)
      → (x : X) → Contains xs x → f x ≡ key → ⊥
  is_nowhere place sorted position x (k, within, is) same = elim (cases_lt k place) [
    | inl before ↦ not_less Less (parted.0 k x (omega arith) before) refl
    | inr behind ↦ not_less Greater (parted.1 k x behind within) refl
  ]
    where
      parted : IsPartitionPoint (λ x. slice_cmp nat_cmp (f x) key ≡ Less) (λ x. slice_cmp nat_cmp (f x) key ≡ Greater) xs place
      parted = position (not_falling nat_list_cmp_total f key xs sorted)

      not_less : (o : Ordering) → slice_cmp nat_cmp (f (slice_index_or xs k x)) key ≡ o → is_eq o ≡ false → ⊥
      not_less o at differs =
          true≢false (sym ((bytes_eq-Decides (f x) key).1 same) ∙ sym (is_eq-slice_cmp (f x) key)
          ∙ ap is_eq (subst (λ y. slice_cmp nat_cmp (f y) key ≡ o) is at) ∙ differs)
