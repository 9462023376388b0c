-- What the free numbers and the marks of a pool are, place by place.
use Rattle.std.proofs.Common.{◌≡◌, ◌≢◌, ◌↔◌, ◌*◌, ⊎_elim, inl, inr, ◌⊎◌, ℕ, zero, suc, ◌+◌, ◌<◌, ◌≤◌, Bool, true, false, List, [], ◌∷◌, ◌++◌, length, get_or, set, take, drop, refl, sym, ap, ◌∙◌, subst, arith, get_or-set_same, get_or-set_other, length-set, take-append-drop, length-take, get_or-take, All, Contains}
use Rattle.std.proofs.lemmas.List.{append-nil, take_more, take-append-le, ext_get_or, length-take-le, get_or_default, get_or_past}
use Rattle.std.proofs.lemmas.List.Elements.{All-more, All-contains, Contains-append_left, Contains-append_right, Contains-append_cases}
use Rattle.std.proofs.lemmas.List.Quantifiers.{all_pairs_push}
use Rattle.std.proofs.lemmas.List.Sums.{fold_more}
use Rattle.std.proofs.lemmas.Bool.{cases_eq, cases_lt, false≢true}
use Rattle.block_pool.specs.Numbers.{IsApart}
use Rattle.block_pool.specs.Pools.{IsLive, IsFree, LiveExactly, free_from, free_numbers, marked}

is_true : (b : Bool) → (b ≡ false → ⊥) → b ≡ true
is_true b isnt = elim b as (λ v. (v ≡ false → ⊥) → v ≡ true) [ true ↦ λ f. refl | false ↦ λ f. absurd (f refl) ] isnt

pub free_from-append : (k : ℕ) (xs ys : List Bool)
    → free_from k (xs ++ ys) ≡ free_from k xs ++ free_from (k + length xs) ys
free_from-append k [] ys = ap (λ j. free_from j ys) (omega arith)
free_from-append k (true ∷ xs) ys = free_from-append (suc k) xs ys
    ∙ ap (λ j. free_from (suc k) xs ++ free_from j ys) (omega arith)
free_from-append k (false ∷ xs) ys = ap (λ l. k ∷ l) (free_from-append (suc k) xs ys
    ∙ ap (λ j. free_from (suc k) xs ++ free_from j ys) (omega arith))

pub length-free_from : (k : ℕ) (xs : List Bool) → length (free_from k xs) ≤ length xs
length-free_from k [] = omega arith
length-free_from k (true ∷ xs) = omega (arith, length-free_from (suc k) xs)
length-free_from k (false ∷ xs) = omega (arith, length-free_from (suc k) xs)

-- one block on
pub free_more : (xs : List Bool) (i : ℕ) (flag : Bool) → i < length xs → flag ≡ get_or xs i false
    → free_from 0 (take (i + 1) xs) ≡ free_from 0 (take i xs) ++ free_from i (flag ∷ [])
free_more xs i flag lt is =
    ap (λ l. free_from 0 l) (take_more xs i false lt)
    ∙ free_from-append 0 (take i xs) (get_or xs i false ∷ [])
    ∙ ap (λ b. free_from 0 (take i xs) ++ free_from (0 + length (take i xs)) (b ∷ [])) (sym is)
    ∙ ap (λ j. free_from 0 (take i xs) ++ free_from j (flag ∷ [])) (omega (arith, length-take-le i xs (omega arith)))

-- a block on that is free, or one that isn't
pub free_block_more : (xs : List Bool) (i : ℕ) → IsFree xs i
    → free_from 0 (take (i + 1) xs) ≡ free_from 0 (take i xs) ++ i ∷ []
free_block_more xs i free = free_more xs i false free.0 (sym free.1)

pub live_block_more : (xs : List Bool) (i : ℕ) → i < length xs → (IsFree xs i → ⊥)
    → free_from 0 (take (i + 1) xs) ≡ free_from 0 (take i xs)
live_block_more xs i lt held =
    free_more xs i true lt (sym (is_true (get_or xs i false) (λ is. held (lt, is)))) ∙ append-nil _

-- a number that a front has is one of the whole
pub free_front : (xs : List Bool) (i n : ℕ) → n ≤ length (free_from 0 (take i xs))
    → take n (free_from 0 (take i xs)) ≡ take n (free_from 0 xs)
free_front xs i n le =
    sym (take-append-le n (free_from 0 (take i xs)) (free_from (0 + length (take i xs)) (drop i xs)) le)
    ∙ ap (λ l. take n l) (sym (free_from-append 0 (take i xs) (drop i xs)))
    ∙ ap (λ l. take n (free_from 0 l)) (take-append-drop i xs)

-- a free number is that of a free block
pub free_is : (k : ℕ) (pool : List Bool) (j d : ℕ) → j < length (free_from k pool)
    → (m : ℕ) × (get_or (free_from k pool) j d ≡ k + m) × (m < length pool) × (get_or pool m false ≡ false)
free_is k [] j d lt = absurd (omega (arith, lt))
free_is k (true ∷ pool) j d lt =
    let r = free_is (suc k) pool j d lt in
    (suc r.0, omega (arith, r.1), omega (arith, r.2), r.3)
free_is k (false ∷ pool) zero d lt = (0, omega arith, omega arith, refl)
free_is k (false ∷ pool) (suc j) d lt =
    let r = free_is (suc k) pool j d (omega (arith, lt)) in
    (suc r.0, omega (arith, r.1), omega (arith, r.2), r.3)

pub free_ascends : (k : ℕ) (pool : List Bool) (i j d : ℕ) → i < j → j < length (free_from k pool)
    → get_or (free_from k pool) i d < get_or (free_from k pool) j d
free_ascends k [] i j d below lt = absurd (omega (arith, lt))
free_ascends k (true ∷ pool) i j d below lt = free_ascends (suc k) pool i j d below lt
free_ascends k (false ∷ pool) zero zero d below lt = absurd (omega (arith, below))
free_ascends k (false ∷ pool) zero (suc j) d below lt =
    let r = free_is (suc k) pool j d (omega (arith, lt)) in omega (arith, r.1)
free_ascends k (false ∷ pool) (suc i) zero d below lt = absurd (omega (arith, below))
free_ascends k (false ∷ pool) (suc i) (suc j) d below lt =
    free_ascends (suc k) pool i j d (omega (arith, below)) (omega (arith, lt))

pub length-marked : (flag : Bool) (ns : List ℕ) (pool : List Bool)
    → length (marked flag ns pool) ≡ length pool
length-marked flag [] pool = refl
length-marked flag (n ∷ ns) pool = length-marked flag ns (set pool n flag) ∙ length-set pool n flag

contains_head : (n i : ℕ) (ns : List ℕ) → n ≡ i → Contains (n ∷ ns) i
contains_head n i ns is = (0, omega arith, is)

contains_tail : (n i : ℕ) (ns : List ℕ) → Contains ns i → Contains (n ∷ ns) i
contains_tail n i ns has = (suc has.0, omega (arith, has.1), has.2)

not_contains : (n i : ℕ) (ns : List ℕ) → (n ≡ i → ⊥) → (Contains ns i → ⊥) → (k : ℕ)
    → k < suc (length ns) → get_or (n ∷ ns) k i ≡ i → ⊥
not_contains n i ns other none zero lt is = other is
not_contains n i ns other none (suc k) lt is = none (k, omega (arith, lt), is)

-- a mark is set at its numbers, and nowhere else
pub marked_cases : (flag : Bool) (ns : List ℕ) (pool : List Bool) (i : ℕ) → i < length pool
    → (Contains ns i × (get_or (marked flag ns pool) i false ≡ flag))
    ⊎ ((Contains ns i → ⊥) × (get_or (marked flag ns pool) i false ≡ get_or pool i false))
marked_cases flag [] pool i lt = inr (λ has. absurd (omega (arith, has.1)), refl)
marked_cases flag (n ∷ ns) pool i lt = ⊎_elim
    (λ was. inl (contains_tail n i ns was.0, was.1))
    (λ was. elim (cases_eq n i) [
      | inl is ↦ inl (
        contains_head n i ns is,
        was.1 ∙ ap (λ j. get_or (set pool n flag) j false) (sym is)
            ∙ get_or-set_same pool n flag false (omega (arith, lt, is)),
      )
      | inr other ↦ inr (
        λ has. not_contains n i ns other was.0 has.0 has.1 has.2,
        was.1 ∙ get_or-set_other pool n i flag false (λ e. other (sym e)),
      )
    ])
    (marked_cases flag ns (set pool n flag) i (omega (arith, lt, length-set pool n flag)))

-- free blocks that became live and then free are as they were
pub unmark : (ns : List ℕ) (pool : List Bool) → All (IsFree pool) ns
    → marked false ns (marked true ns pool) ≡ pool
unmark ns pool free = ext_get_or false _ pool
    (length-marked false ns (marked true ns pool) ∙ length-marked true ns pool)
    (λ i lt.
    let below : i < length pool =
    omega (arith, lt, length-marked false ns (marked true ns pool), length-marked true ns pool) in
    ⊎_elim
    (λ was. was.1 ∙ sym (ap (λ n. get_or pool n false) (sym was.0.2) ∙ (free was.0.0 i was.0.1).1))
    (λ was. was.1 ∙ ⊎_elim (λ is. absurd (was.0 is.0)) (λ is. is.1) (marked_cases true ns pool i below))
    (marked_cases false ns (marked true ns pool) i (omega (arith, below, length-marked true ns pool))))

free_set : (k : ℕ) (pool : List Bool) (n : ℕ)
    → length (free_from k (set pool n false)) ≤ length (free_from k pool) + 1
free_set k [] n = omega arith
free_set k (true ∷ pool) zero = omega arith
free_set k (false ∷ pool) zero = omega arith
free_set k (true ∷ pool) (suc n) = free_set (suc k) pool n
free_set k (false ∷ pool) (suc n) = omega (arith, free_set (suc k) pool n)

free_marked : (ns : List ℕ) (pool : List Bool)
    → length (free_from 0 (marked false ns pool)) ≤ length (free_from 0 pool) + length ns
free_marked [] pool = omega arith
free_marked (n ∷ ns) pool = omega (arith, free_marked ns (set pool n false), free_set 0 pool n)

all_free : (k : ℕ) (pool : List Bool) → ((i : ℕ) → i < length pool → get_or pool i false ≡ false)
    → length (free_from k pool) ≡ length pool
all_free k [] free = refl
all_free k (true ∷ pool) free = absurd (false≢true (sym (free 0 (omega arith))))
all_free k (false ∷ pool) free = ap suc (all_free (suc k) pool (λ i lt. free (suc i) (omega (arith, lt))))

pub is_false : (b : Bool) → (b ≡ true → ⊥) → b ≡ false
is_false b isnt = elim b as (λ v. (v ≡ true → ⊥) → v ≡ false) [ true ↦ λ f. absurd (f refl) | false ↦ λ f. refl ] isnt

pub few_live : (pool : List Bool) (ns : List ℕ) → ((n : ℕ) → IsLive pool n → Contains ns n)
    → length pool ≤ length (free_numbers pool) + length ns
few_live pool ns within = omega (
  arith,
  free_marked ns pool,
  length-marked false ns pool,
  all_free 0 (marked false ns pool) (λ i lt. ⊎_elim (λ was. was.1)
      (λ was. was.1 ∙ is_false _ (λ live. was.0 (within i live)))
      (marked_cases false ns pool i (omega (arith, lt, length-marked false ns pool)))),
)

-- the least free numbers are free, and apart
module _ (pool : List Bool) (n : ℕ) where
  few : length (take n (free_numbers pool)) ≤ length (free_numbers pool)
  few = omega (arith, length-take n (free_numbers pool))

  short : length (take n (free_numbers pool)) ≤ n
  short = omega (arith, length-take n (free_numbers pool))

  of_front : (j d : ℕ) → j < length (take n (free_numbers pool))
      → get_or (take n (free_numbers pool)) j d ≡ get_or (free_numbers pool) j d
  of_front j d lt = get_or-take n (free_numbers pool) j d (omega (arith, lt, short))

  pub least_apart : IsApart (take n (free_numbers pool))
  least_apart i j d below lt same =
      let ascends = free_ascends 0 pool i j d below (omega (arith, lt, few)) in
      omega (arith, ascends, sym (of_front i d (omega (arith, below, lt))) ∙ same ∙ of_front j d lt)

  pub least_free : All (IsFree pool) (take n (free_numbers pool))
  least_free k d lt =
      let r = free_is 0 pool k d (omega (arith, lt, few)) in
      let is : get_or (take n (free_numbers pool)) k d ≡ r.0 = omega (arith, of_front k d lt, r.1) in
      (omega (arith, is, r.2), ap (λ i. get_or pool i false) is ∙ r.3)

-- one block more is held
module _ (numbers : List ℕ) (i : ℕ) (pool now : List Bool) (lt : i < length numbers)
    (is : now ≡ marked true (take i numbers) pool) where
  same_size : length now ≡ length pool
  same_size = ap length is ∙ length-marked true (take i numbers) pool

  cases : get_or numbers i 0 < length pool
      → (Contains (take i numbers) (get_or numbers i 0) × (get_or now (get_or numbers i 0) false ≡ true))
      ⊎ ((Contains (take i numbers) (get_or numbers i 0) → ⊥) × (get_or now (get_or numbers i 0) false ≡ get_or pool (get_or numbers i 0) false))
  cases below = subst
      (λ (l : List Bool). (Contains (take i numbers) (get_or numbers i 0) × (get_or l (get_or numbers i 0) false ≡ true))
      ⊎ ((Contains (take i numbers) (get_or numbers i 0) → ⊥) × (get_or l (get_or numbers i 0) false ≡ get_or pool (get_or numbers i 0) false)))
      (sym is) (marked_cases true (take i numbers) pool (get_or numbers i 0) below)

  pub held_marked : set now (get_or numbers i 0) true ≡ marked true (take (i + 1) numbers) pool
  held_marked = ap (λ l. set l (get_or numbers i 0) true) is
      ∙ sym (fold_more (λ p n. set p n true) pool numbers i 0 lt)

  module _ (free_now : IsFree now (get_or numbers i 0)) where
    below : get_or numbers i 0 < length pool
    below = omega (arith, free_now.0, same_size)

    was_free : IsFree pool (get_or numbers i 0)
    was_free = (
      below,
      ⊎_elim (λ w. absurd (false≢true (sym free_now.1 ∙ w.1)))
          (λ w. sym w.1 ∙ free_now.1) (cases below),
    )

    is_new : Contains (take i numbers) (get_or numbers i 0) → ⊥
    is_new has = ⊎_elim (λ w. false≢true (sym free_now.1 ∙ w.1)) (λ w. w.0 has) (cases below)

    pub held_free : All (IsFree pool) (take i numbers) → All (IsFree pool) (take (i + 1) numbers)
    held_free free = All-more (IsFree pool) numbers i 0 lt free was_free

    pub held_apart : IsApart (take i numbers) → IsApart (take (i + 1) numbers)
    held_apart apart = subst IsApart (sym (take_more numbers i 0 lt))
        (all_pairs_push (λ m n. m ≢ n) (take i numbers) (get_or numbers i 0) apart
        (λ k d k_lt same. is_new (k, k_lt, get_or_default (take i numbers) k _ d k_lt ∙ same)))

  pub not_held : (IsFree now (get_or numbers i 0) → ⊥) → All (IsFree pool) numbers → IsApart numbers → ⊥
  not_held taken free apart =
      let f : IsFree pool (get_or numbers i 0) = free i 0 lt in
      ⊎_elim
      (λ w.
      let has = w.0 in
      let k_lt : has.0 < i = omega (arith, has.1, length-take-le i numbers (omega arith)) in
      apart has.0 i 0 k_lt lt
      (get_or_default numbers has.0 0 (get_or numbers i 0) (omega (arith, k_lt))
      ∙ sym (get_or-take i numbers has.0 (get_or numbers i 0) k_lt) ∙ has.2))
      (λ w. taken (omega (arith, f.0, same_size), w.1 ∙ f.1)) (cases f.0)

-- what is live after a mark
module _ (pool : List Bool) (numbers : List ℕ) (n : ℕ) where
  within : (flags : List Bool) → IsLive flags n → n < length flags
  within flags live = ⊎_elim (λ lt. lt)
      (λ le. absurd (false≢true (sym (get_or_past flags n false le) ∙ live))) (cases_lt n (length flags))

  inside : (flag : Bool) → IsLive (marked flag numbers pool) n → n < length pool
  inside flag live = omega (arith, within (marked flag numbers pool) live, length-marked flag numbers pool)

  pub live_to : IsLive (marked true numbers pool) n → (Contains numbers n × (n < length pool)) ⊎ IsLive pool n
  live_to live = ⊎_elim (λ w. inl (w.0, inside true live)) (λ w. inr (sym w.1 ∙ live))
      (marked_cases true numbers pool n (inside true live))

  pub live_from : (Contains numbers n × (n < length pool)) ⊎ IsLive pool n → IsLive (marked true numbers pool) n
  live_from is = ⊎_elim
      (λ w. ⊎_elim (λ c. c.1) (λ c. absurd (c.0 w.0)) (marked_cases true numbers pool n w.1))
      (λ live. ⊎_elim (λ c. c.1) (λ c. c.1 ∙ live) (marked_cases true numbers pool n (within pool live))) is

  pub free_to : IsLive (marked false numbers pool) n → IsLive pool n × (Contains numbers n → ⊥)
  free_to live = ⊎_elim (λ w. absurd (false≢true (sym w.1 ∙ live))) (λ w. (sym w.1 ∙ live, w.0))
      (marked_cases false numbers pool n (inside false live))

  pub free_from_live : IsLive pool n × (Contains numbers n → ⊥) → IsLive (marked false numbers pool) n
  free_from_live is = ⊎_elim (λ w. absurd (is.1 w.0)) (λ w. w.1 ∙ is.0)
      (marked_cases false numbers pool n (within pool is.0))

pub taken_live : (pool : List Bool) (named numbers : List ℕ) → LiveExactly pool named
    → All (IsFree pool) numbers → LiveExactly (marked true numbers pool) (named ++ numbers)
taken_live pool named numbers exact free n = (
  λ live. ⊎_elim (λ w. Contains-append_right named numbers n w.0)
      (λ was. Contains-append_left named numbers n ((exact n).0 was)) (live_to pool numbers n live),
  λ has. live_from pool numbers n (⊎_elim (λ c. inr ((exact n).1 c))
      (λ c. inl (c, (All-contains (IsFree pool) numbers n free c).0)) (Contains-append_cases named numbers n has)),
)

pub retired_live : (pool : List Bool) (named gone left : List ℕ) → LiveExactly pool named
    → ((n : ℕ) → Contains left n ↔ (Contains named n × (Contains gone n → ⊥)))
    → LiveExactly (marked false gone pool) left
retired_live pool named gone left exact are n = (
  λ live. let w = free_to pool gone n live in (are n).1 ((exact n).0 w.0, w.1),
  λ has. let w = (are n).0 has in free_from_live pool gone n ((exact n).1 w.0, w.1),
)

pub half_free : (pool : List Bool) (named : List ℕ) (capacity : ℕ) → LiveExactly pool named
    → length pool ≡ 2 * capacity → length named ≤ capacity → capacity ≤ length (free_numbers pool)
half_free pool named capacity exact size few =
    omega (arith, few_live pool named (λ n live. (exact n).0 live), size, few)
