-- Which blocks a pool holds, beside those that a state names.
use Rattle.std.proofs.Common.{◌≡◌, ℕ, ◌+◌, ◌-◌, ◌*◌, ◌<◌, ◌≤◌, Bool, true, false, inl, inr, List, [], ◌∷◌, ◌++◌, length, take, drop, slice_get, Some, refl, sym, ap, subst, ◌∙◌, arith, length-append, take-append-drop, append_assoc, ◌⊎◌}
use Rattle.std.specs.Prelude.{All, Contains, replicate, slice_index_or}
use Rattle.std.specs.List.{AllByRecursion}
use Rattle.std.proofs.lemmas.Bool.{cases_lt, eq-eqb, false≢true}
use Rattle.std.proofs.lemmas.Bool.Decides.{Decides-eqb}
use Rattle.std.proofs.lemmas.List.{get_or-replicate, length-replicate, get_or_past}
use Rattle.std.proofs.lemmas.List.Elements.{All-from_recursion, recursion_from_All, All-append, All-weaker, All-contains, All-contains_itself, All-nil, Contains-append_right}
use Rattle.std.proofs.lemmas.Map.Made.{AllPairs-from_IsDistinct, IsDistinct-from_AllPairs}
use Rattle.block_pool.specs.Numbers.{IsApart}
use Rattle.block_pool.specs.Pools.{IsFree, LiveExactly, marked}
use Rattle.block_pool.proofs.PoolLemmas.{is_false, taken_live, length-marked}
use Rattle.config_table.specs.State.{Entry}
use Rattle.config_table.specs.Stored.{Stored}
use Rattle.bank_layout.specs.Manifest.{AreOwnBlocks, blocks_in}
use Rattle.bank_layout.proofs.Placed.{AreDistinct, AreApart, IsOther, all_front, distinct_append, distinct_front, distinct_back, distinct_apart, apart_of}
use Rattle.der_write.proofs.Contents.{text_more}

to_distinct : (xs : List ℕ) → IsApart xs → AreDistinct xs
to_distinct xs = IsDistinct-from_AllPairs Decides-eqb xs

to_apart : (xs : List ℕ) → AreDistinct xs → IsApart xs
to_apart xs = AllPairs-from_IsDistinct Decides-eqb xs

abbrev AreOthers : List ℕ → ℕ → Type 0
AreOthers ys n = AllByRecursion (IsOther n) ys

-- a number of one list isn't in the other
not_in : (xs ys : List ℕ) → AreApart xs ys → (n : ℕ) → Contains xs n → Contains ys n → ⊥
not_in xs ys apart n here there =
    let others = All-contains (AreOthers ys) xs n (All-from_recursion (AreOthers ys) xs apart) here in
    let other = All-contains (IsOther n) ys n (All-from_recursion (IsOther n) ys others) there in
    false≢true (sym other ∙ eq-eqb n n refl)

-- ---- blocks, and more of them

own_front : (capacity : ℕ) (xs ys : List ℕ) → AreOwnBlocks capacity (xs ++ ys) → AreOwnBlocks capacity xs
own_front capacity xs ys own = record {
  below = All-from_recursion (λ n. n < 2 * capacity) xs
      (all_front (λ n. n < 2 * capacity) xs ys (recursion_from_All (λ n. n < 2 * capacity) (xs ++ ys) own.below));
  apart = to_apart xs (distinct_front xs ys (to_distinct (xs ++ ys) own.apart));
  few = omega (arith, own.few, length-append xs ys);
}

-- no block at all
pub own_none : (capacity : ℕ) → AreOwnBlocks capacity []
own_none capacity = record {
  below = All-nil (λ n. n < 2 * capacity);
  apart = λ i j d less within. absurd (omega (arith, within));
  few = omega arith;
}

-- a pool in which exactly some blocks are live holds more of them where they are a module's with those
module _ (capacity : ℕ) (pool : List Bool) (named numbers : List ℕ) (live : LiveExactly pool named)
    (size : length pool ≡ 2 * capacity) where
  pub held_own : AreOwnBlocks capacity named → length numbers + length named ≤ capacity
      → All (IsFree pool) numbers × IsApart numbers → AreOwnBlocks capacity (named ++ numbers)
  held_own own room (free, apart) = record {
    below = All-append (λ n. n < 2 * capacity) named numbers own.below
        (All-weaker (IsFree pool) (λ n. n < 2 * capacity) (λ n f. omega (arith, f.0, size)) numbers free);
    apart = to_apart (named ++ numbers) (distinct_append named numbers (to_distinct named own.apart)
        (to_distinct numbers apart) (apart_of named numbers separate));
    few = omega (arith, room, length-append named numbers);
  }
    where
      separate : (n : ℕ) → Contains named n → ¬ Contains numbers n
      separate n here there =
          let f = All-contains (IsFree pool) numbers n free there in
          false≢true (sym f.1 ∙ (live n).1 here)

  pub own_held : AreOwnBlocks capacity (named ++ numbers) → All (IsFree pool) numbers × IsApart numbers
  own_held own = (
    All-weaker (Contains numbers) (IsFree pool) is_free numbers (All-contains_itself numbers),
    to_apart numbers (distinct_back named numbers (to_distinct (named ++ numbers) own.apart)),
  )
    where
      is_free : (n : ℕ) → Contains numbers n → IsFree pool n
      is_free n there =
          let below = All-contains (λ m. m < 2 * capacity) (named ++ numbers) n own.below
          (Contains-append_right named numbers n there) in (
            omega (arith, below, size),
            is_false (slice_index_or pool n false) (λ is. not_in named numbers
                (distinct_apart named numbers (to_distinct (named ++ numbers) own.apart)) n ((live n).0 is) there),
          )

-- a pool of free blocks
pub none_live : (n : ℕ) → LiveExactly (replicate n false) []
none_live n k = (λ is. absurd (false≢true (sym (free (cases_lt k n)) ∙ is)), λ c. absurd (omega (arith, c.1)))
  where
    free : (k < n) ⊎ (n ≤ k) → slice_index_or (replicate n false) k false ≡ false
    free (inl lt) = get_or-replicate {A = Bool} n k false false lt
    free (inr le) = get_or_past (replicate n false) k false (omega (arith, le, length-replicate {A = Bool} n false))

-- ---- the blocks of packages

pub blocks_more : (es : List (Entry Stored)) (i : ℕ) (e : Entry Stored) → Some e ≡ slice_get es i
    → blocks_in (take (i + 1) es) ≡ blocks_in (take i es) ++ e.image.blocks
blocks_more es i e is =
    sym (text_more (λ (entry : Entry Stored). entry.image.blocks) es i e (blocks_in (take i es))
    (blocks_in (take i es) ++ e.image.blocks) is refl refl)

blocks_append : (xs ys : List (Entry Stored)) → blocks_in (xs ++ ys) ≡ blocks_in xs ++ blocks_in ys
blocks_append [] ys = refl
blocks_append (x ∷ xs) ys =
    ap (λ (l : List ℕ). x.image.blocks ++ l) (blocks_append xs ys)
    ∙ sym (append_assoc x.image.blocks (blocks_in xs) (blocks_in ys))

-- the first packages' blocks are a module's where all are
pub own_so_far : (capacity : ℕ) (es : List (Entry Stored)) (i : ℕ) → AreOwnBlocks capacity (blocks_in es)
    → AreOwnBlocks capacity (blocks_in (take i es))
own_so_far capacity es i own =
    own_front capacity (blocks_in (take i es)) (blocks_in (drop i es))
    (subst (AreOwnBlocks capacity) (ap blocks_in (sym (take-append-drop i es))
    ∙ blocks_append (take i es) (drop i es)) own)

-- and with the next one
pub own_next : (capacity : ℕ) (es : List (Entry Stored)) (i : ℕ) (e : Entry Stored) → Some e ≡ slice_get es i
    → AreOwnBlocks capacity (blocks_in es) → AreOwnBlocks capacity (blocks_in (take i es) ++ e.image.blocks)
own_next capacity es i e is own =
    subst (AreOwnBlocks capacity) (blocks_more es i e is) (own_so_far capacity es (i + 1) own)

-- ---- a pool that is filled package by package

-- In the pool of a capacity exactly these blocks are live, and so many more may be.
pub record IsSoFar (capacity left : ℕ) (pool : List Bool) (named : List ℕ) : Type 0 where
  pub live : LiveExactly pool named
  pub size : length pool ≡ 2 * capacity
  pub own : AreOwnBlocks capacity named
  pub room : left + length named ≡ capacity

pub no_blocks_yet : (capacity : ℕ) (pool : List Bool) → pool ≡ replicate (2 * capacity) false
    → IsSoFar capacity capacity pool []
no_blocks_yet capacity pool is = record {
  live = subst (λ (p : List Bool). LiveExactly p []) (sym is) (none_live (2 * capacity));
  size = ap length is ∙ length-replicate {A = Bool} (2 * capacity) false;
  own = own_none capacity;
  room = omega arith;
}

module _ (capacity left : ℕ) (pool : List Bool) (es : List (Entry Stored)) (i : ℕ) (e : Entry Stored)
    (is : Some e ≡ slice_get es i) (numbers : List ℕ) (those : numbers ≡ e.image.blocks)
    (so_far : IsSoFar capacity left pool (blocks_in (take i es))) where
  own_more : AreOwnBlocks capacity (blocks_in es) → AreOwnBlocks capacity (blocks_in (take i es) ++ numbers)
  own_more own =
      subst (λ (ns : List ℕ). AreOwnBlocks capacity (blocks_in (take i es) ++ ns)) (sym those)
      (own_next capacity es i e is own)

  pub too_many_blocks : left < length numbers → AreOwnBlocks capacity (blocks_in es) → ⊥
  too_many_blocks more own =
      omega (arith, more, (own_more own).few, so_far.room, length-append (blocks_in (take i es)) numbers)

  pub can_hold : AreOwnBlocks capacity (blocks_in es) → All (IsFree pool) numbers × IsApart numbers
  can_hold own =
      own_held capacity pool (blocks_in (take i es)) numbers so_far.live so_far.size (own_more own)

  pub held_more : (next : List Bool) → length numbers ≤ left → All (IsFree pool) numbers × IsApart numbers
      → next ≡ marked true numbers pool
      → IsSoFar capacity (left - length numbers) next (blocks_in (take (i + 1) es))
  held_more next room held after =
      let more : blocks_in (take (i + 1) es) ≡ blocks_in (take i es) ++ numbers =
      blocks_more es i e is ∙ ap (λ (ns : List ℕ). blocks_in (take i es) ++ ns) (sym those) in
      let sum = length-append (blocks_in (take i es)) numbers in
      subst (λ (p : List Bool). IsSoFar capacity (left - length numbers) p (blocks_in (take (i + 1) es))) (sym after)
      (subst (IsSoFar capacity (left - length numbers) (marked true numbers pool)) (sym more) (record {
        live = taken_live pool (blocks_in (take i es)) numbers so_far.live held.0;
        size = length-marked true numbers pool ∙ so_far.size;
        own = held_own capacity pool (blocks_in (take i es)) numbers so_far.live so_far.size so_far.own
            (omega (arith, room, so_far.room)) held;
        room = omega (arith, room, so_far.room, sum);
      }))
