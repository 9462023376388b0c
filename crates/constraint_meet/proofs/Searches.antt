-- A search among places that stand in order finds one where there is one.
use Rattle.std.proofs.Common.{◌≡◌, ◌≤◌, ◌<◌, ◌+◌, ◌-◌, ℕ, zero, suc, Bool, true, false, List, length, leb}
use Rattle.std.proofs.Common.{Ordering, Less, Equal, Greater, refl, sym, ap, ◌∙◌, subst, arith, inl, inr}
use Rattle.std.specs.Prelude.{slice_index_or}
use Rattle.std.specs.List.Sorted.{IsSortedBy, IsNonDecreasingBy, IsPartitionedBy, IsPartitionPoint}
use Rattle.std.specs.Ordering.{nat_cmp, is_lt, is_eq, is_le, ordering_index, ordering_reverse, ordering_then}
use Rattle.std.specs.Cmp.{IsTotalOrder, then_total, on_total, nat_cmp_total}
use Rattle.std.specs.Cmp.Lexicographic.{slice_cmp, nat_list_cmp_total}
use Rattle.std.proofs.lemmas.Bool.{false≢true, cases_lt}
use Rattle.std.proofs.lemmas.List.Sorted.{IsPartitionedBy-leb}
use Rattle.std.proofs.lemmas.Map.Text.{is_eq-slice_cmp}
use Rattle.std.proofs.lemmas.Slice.Eq.{bytes_eq-Decides}
use Rattle.constraint_meet.specs.declared.places.Part.{Part}
use Rattle.constraint_meet.specs.Places.{Key, part_at, key_at, key_cmp, AreInOrder, Holds}

-- ---- in any total order

module _ {X K : Type 0} {R : K → K → Ordering} (total : IsTotalOrder R) (f : X → K) where
  -- where y isn't less than x, it isn't placed lower
  higher : (x y z : K) → is_lt (R y x) ≡ false → ordering_index (R x z) ≤ ordering_index (R y z)
  higher x y z not_less = by (R x z) (R y z) refl refl
    where
      less : R y x ≡ Less → ⊥
      less e = false≢true (sym not_less ∙ ap is_lt e)

      by : (o p : Ordering) → R x z ≡ o → R y z ≡ p → ordering_index o ≤ ordering_index p
      by Less p a b = omega arith
      by Equal Less a b =
          absurd (less (total.antisymm y x ∙ ap ordering_reverse (total.congr x z y a ∙ total.antisymm z y
          ∙ ap ordering_reverse b)))
      by Equal Equal a b = omega arith
      by Equal Greater a b = omega arith
      by Greater Less a b = absurd (less (total.trans y z x b (total.antisymm z x ∙ ap ordering_reverse a)))
      by Greater Equal a b = absurd (less (total.congr y z x b ∙ total.antisymm z x ∙ ap ordering_reverse a))
      by Greater Greater a b = omega arith

  -- along what is sorted, the comparison with one key doesn't fall
  pub not_falling : (z : K) (xs : List X) → IsSortedBy (λ x y. is_lt (R (f x) (f y))) xs
      → IsNonDecreasingBy (λ x. ordering_index (R (f x) z)) xs
  not_falling z xs sorted i j d low within = subst P back (up (j - i) (omega arith))
    where
      P : ℕ → Type 0
      P k = ordering_index (R (f (slice_index_or xs i d)) z) ≤ ordering_index (R (f (slice_index_or xs k d)) z)

      back : i + (j - i) ≡ j
      back = omega (arith, low)

      up : (k : ℕ) → i + k < length xs
          → ordering_index (R (f (slice_index_or xs i d)) z) ≤ ordering_index (R (f (slice_index_or xs (i + k) d)) z)
      up zero room = let same : i + 0 ≡ i = omega arith in rw same (omega arith)
      up (suc k) room =
          let before = up k (omega arith) in
          let next : i + suc k ≡ i + k + 1 = omega arith in
          let step = higher (f (slice_index_or xs (i + k) d)) (f (slice_index_or xs (i + k + 1) d)) z
          (sorted (i + k) d (omega arith) (omega (arith, room))) in
          rw next (omega (arith, before, step))

le_index : (o : Ordering) → is_le o ≡ leb (ordering_index o) 1
le_index Less = refl
le_index Equal = refl
le_index Greater = refl

-- ---- among places

pub key_total : IsTotalOrder key_cmp
key_total = then_total (on_total (λ (x : Key). x.0) nat_list_cmp_total) (on_total (λ (x : Key). x.1) nat_cmp_total)

eq_is : (o : Ordering) → is_eq o ≡ true → o ≡ Equal
eq_is Less e = absurd (false≢true e)
eq_is Equal e = refl
eq_is Greater e = absurd (false≢true e)

same_cmp : (a b : List ℕ) → a ≡ b → slice_cmp nat_cmp a b ≡ Equal
same_cmp a b is = eq_is (slice_cmp nat_cmp a b) (is_eq-slice_cmp a b ∙ (bytes_eq-Decides a b).1 is)

cmp_same : (a b : List ℕ) → slice_cmp nat_cmp a b ≡ Equal → a ≡ b
cmp_same a b e = (bytes_eq-Decides a b).0 (sym (is_eq-slice_cmp a b) ∙ ap is_eq e)

not_le : (x z : ℕ) → is_le (nat_cmp x z) ≡ false → z < x
not_le x z h = search (h, arith)

above : (x z : ℕ) → z < x → is_le (nat_cmp x z) ≡ false
above x z h = search (h, arith)

no_more : (x y : ℕ) → ordering_index (nat_cmp x y) ≤ 1 → x ≤ y
no_more x y h = search (h, arith)

itself : (x : ℕ) → nat_cmp x x ≡ Equal
itself x = search arith

-- what lies between: above the first, and not above the second
between : (o : Ordering) (x y after : ℕ) → is_le (ordering_then o (nat_cmp x after)) ≡ false
    → ordering_index (ordering_then o (nat_cmp x y)) ≤ 1 → (o ≡ Equal) × (x ≤ y)
between Less x y after up down = absurd (false≢true (sym up))
between Equal x y after up down = (refl, no_more x y down)
between Greater x y after up down = absurd (omega (arith, down))

module _ (part : Part) (octets places : List ℕ) (it : List ℕ) (after : ℕ) where
  is_up_to : ℕ → Bool
  is_up_to place = is_le (key_cmp (key_at part octets place) (it, after))

  pub partitioned : AreInOrder part octets places
      → IsPartitionedBy (λ place. is_le (key_cmp (key_at part octets place) (it, after))) places
  partitioned ordered i j d low within is =
      le_index (key_cmp (key_at part octets (slice_index_or places i d)) (it, after))
      ∙ IsPartitionedBy-leb (λ place. ordering_index (key_cmp (key_at part octets place) (it, after))) places 1
      (not_falling key_total (key_at part octets) (it, after) places ordered) i j d low within
      (sym (le_index (key_cmp (key_at part octets (slice_index_or places j d)) (it, after))) ∙ is)

  -- what stands at the first place behind all that are less
  module _ (size first : ℕ) (ordered : AreInOrder part octets places)
      (parted : IsPartitionPoint (λ place. is_le (key_cmp (key_at part octets place) (it, after)) ≡ true)
      (λ place. is_le (key_cmp (key_at part octets place) (it, after)) ≡ false) places first) where
    pub is_found : (place : ℕ) → first < length places → slice_index_or places first place ≡ place
        → part_at part octets place ≡ it → place ≤ after + size → Holds part octets places after size it place
    is_found place within at is high = record {
      one = (first, within, at);
      low = not_le place after up';
      high = high;
      is = is;
    }
      where
        up : is_le (ordering_then (slice_cmp nat_cmp (part_at part octets place) it) (nat_cmp place after)) ≡ false
        up =
            subst (λ p. is_le (key_cmp (key_at part octets p) (it, after)) ≡ false) at
            (parted.1 first place (omega arith) within)

        up' : is_le (nat_cmp place after) ≡ false
        up' = rw (same_cmp (part_at part octets place) it is) at up

    module _ (place : ℕ) (h : Holds part octets places after size it place) where
      beyond : is_le (key_cmp (key_at part octets place) (it, after)) ≡ false
      beyond = rw (same_cmp (part_at part octets place) it h.is) (above place after h.low)

      low : first ≤ h.one.0
      low = elim (cases_lt h.one.0 first) [
        | inl before ↦
            absurd (false≢true (sym beyond
            ∙ subst (λ p. is_le (key_cmp (key_at part octets p) (it, after)) ≡ true) h.one.2
            (parted.0 h.one.0 place (omega arith) before)))
        | inr not_before ↦ not_before
      ]

      abbrev pub least : ℕ
      least = slice_index_or places first place

      same : ordering_index (key_cmp (key_at part octets (slice_index_or places h.one.0 place)) (key_at part octets place))
          ≡ 1
      same =
          subst (λ p. ordering_index (key_cmp (key_at part octets p) (key_at part octets place)) ≡ 1) (sym h.one.2)
          (rw (same_cmp (part_at part octets place) (part_at part octets place) refl, itself place) refl)

      pub is_least : (first < length places) × (part_at part octets least ≡ it) × (least ≤ after + size)
      is_least =
          let within : first < length places = omega (arith, low, h.one.1) in
          let falls = not_falling key_total (key_at part octets) (key_at part octets place) places ordered first h.one.0
          place low h.one.1 in
          let down : ordering_index (key_cmp (key_at part octets least) (key_at part octets place)) ≤ 1 =
          omega (arith, falls, same) in
          let b = between (slice_cmp nat_cmp (part_at part octets least) it) least place after
          (parted.1 first place (omega arith) within) (rw h.is at down) in
          (within, cmp_same (part_at part octets least) it b.0, omega (arith, b.1, h.high))
