-- Blocks stay apart where a package with blocks of its own is installed.
use Rattle.std.proofs.Common.{◌≡◌, inl, inr, ℕ, false, List, [], ◌∷◌, ◌++◌, sym, subst}
use Rattle.std.specs.Prelude.{◌==◌, All, Contains}
use Rattle.std.proofs.lemmas.Bool.{cases_Bool, ne_eqb}
use Rattle.std.proofs.lemmas.Bool.Decides.{Decides-eqb}
use Rattle.std.proofs.lemmas.List.Elements.{All-from_recursion, recursion_from_All, Contains-append_left, Contains-append_right, Contains-push}
use Rattle.std.proofs.lemmas.Map.Made.{AllPairs-from_IsDistinct, IsDistinct-from_AllPairs}
use Rattle.std.specs.List.{AllByRecursion, IsDistinct}
use Rattle.block_pool.specs.Numbers.{IsApart}
use Rattle.config_table.specs.Names.{is_same}
use Rattle.config_table.specs.State.{Entry, placed}
use Rattle.config_table.specs.Stored.{Stored}
use Rattle.bank_layout.specs.Manifest.{blocks_in}

all_append : (P : ℕ → Type 0) (xs ys : List ℕ) → AllByRecursion P xs → AllByRecursion P ys → AllByRecursion P (xs ++ ys)
all_append P [] ys p q = q
all_append P (x ∷ xs) ys p q = (p.0, all_append P xs ys p.1 q)

pub all_front : (P : ℕ → Type 0) (xs ys : List ℕ) → AllByRecursion P (xs ++ ys) → AllByRecursion P xs
all_front P [] ys p = tt
all_front P (x ∷ xs) ys p = (p.0, all_front P xs ys p.1)

pub all_back : (P : ℕ → Type 0) (xs ys : List ℕ) → AllByRecursion P (xs ++ ys) → AllByRecursion P ys
all_back P [] ys p = p
all_back P (x ∷ xs) ys p = all_back P xs ys p.1

-- what holds of each block of a package and of each that was there
all_placed : (P : ℕ → Type 0) (new : Entry Stored) (es : List (Entry Stored)) → AllByRecursion P new.image.blocks
    → AllByRecursion P (blocks_in es) → AllByRecursion P (blocks_in (placed new es))
all_placed P new [] p q = all_append P new.image.blocks [] p q
all_placed P new (old ∷ rest) p q = elim (cases_Bool (is_same new.name old.name)) [
  | inl same ↦ rw same (all_append P new.image.blocks (blocks_in rest) p (all_back P old.image.blocks (blocks_in rest) q))
  | inr differs ↦ rw differs (all_append P old.image.blocks (blocks_in (placed new rest))
      (all_front P old.image.blocks (blocks_in rest) q)
      (all_placed P new rest p (all_back P old.image.blocks (blocks_in rest) q)))
]

abbrev pub IsOther : ℕ → ℕ → Type 0
IsOther x y = (x == y) ≡ false

-- no block of one list is in the other
abbrev pub AreApart : List ℕ → List ℕ → Type 0
AreApart xs ys = AllByRecursion (λ x. AllByRecursion (IsOther x) ys) xs

abbrev pub AreDistinct : List ℕ → Type 0
AreDistinct xs = IsDistinct (λ m n. m == n) xs

pub distinct_append : (xs ys : List ℕ) → AreDistinct xs → AreDistinct ys → AreApart xs ys → AreDistinct (xs ++ ys)
unfolding IsDistinct
distinct_append [] ys p q apart = q
distinct_append (x ∷ xs) ys p q apart = (all_append (IsOther x) xs ys p.0 apart.0, distinct_append xs ys p.1 q apart.1)

pub distinct_front : (xs ys : List ℕ) → AreDistinct (xs ++ ys) → AreDistinct xs
unfolding IsDistinct
distinct_front [] ys p = tt
distinct_front (x ∷ xs) ys p = (all_front (IsOther x) xs ys p.0, distinct_front xs ys p.1)

pub distinct_back : (xs ys : List ℕ) → AreDistinct (xs ++ ys) → AreDistinct ys
unfolding IsDistinct
distinct_back [] ys p = p
distinct_back (x ∷ xs) ys p = distinct_back xs ys p.1

pub distinct_apart : (xs ys : List ℕ) → AreDistinct (xs ++ ys) → AreApart xs ys
unfolding IsDistinct
distinct_apart [] ys p = tt
distinct_apart (x ∷ xs) ys p = (all_back (IsOther x) xs ys p.0, distinct_apart xs ys p.1)

-- apart from a package's blocks, and from what was there
apart_placed : (xs : List ℕ) (new : Entry Stored) (es : List (Entry Stored)) → AreApart xs new.image.blocks
    → AreApart xs (blocks_in es) → AreApart xs (blocks_in (placed new es))
apart_placed [] new es p q = tt
apart_placed (x ∷ xs) new es p q = (all_placed (IsOther x) new es p.0 q.0, apart_placed xs new es p.1 q.1)

-- two sides of being apart
all_side : (x : ℕ) (xs : List ℕ) (ys : List ℕ) → AreApart (x ∷ xs) ys → AllByRecursion (IsOther x) ys
all_side x xs ys p = p.0

apart_back : (xs ys zs : List ℕ) → AreApart xs (ys ++ zs) → AreApart xs zs
apart_back [] ys zs p = tt
apart_back (x ∷ xs) ys zs p = (all_back (IsOther x) ys zs p.0, apart_back xs ys zs p.1)

apart_front : (xs ys zs : List ℕ) → AreApart xs (ys ++ zs) → AreApart xs ys
apart_front [] ys zs p = tt
apart_front (x ∷ xs) ys zs p = (all_front (IsOther x) ys zs p.0, apart_front xs ys zs p.1)

-- blocks stay distinct
distinct_placed : (new : Entry Stored) (es : List (Entry Stored)) → AreDistinct new.image.blocks
    → AreDistinct (blocks_in es) → AreApart new.image.blocks (blocks_in es) → AreApart (blocks_in es) new.image.blocks
    → AreDistinct (blocks_in (placed new es))
distinct_placed new [] p q to from = distinct_append new.image.blocks [] p q to
distinct_placed new (old ∷ rest) p q to from = elim (cases_Bool (is_same new.name old.name)) [
  | inl same ↦ rw same (distinct_append new.image.blocks (blocks_in rest) p
      (distinct_back old.image.blocks (blocks_in rest) q)
      (apart_back new.image.blocks old.image.blocks (blocks_in rest) to))
  | inr differs ↦ rw differs (distinct_append old.image.blocks (blocks_in (placed new rest))
      (distinct_front old.image.blocks (blocks_in rest) q)
      (distinct_placed new rest p (distinct_back old.image.blocks (blocks_in rest) q)
      (apart_back new.image.blocks old.image.blocks (blocks_in rest) to)
      (all_back (λ x. AllByRecursion (IsOther x) new.image.blocks) old.image.blocks (blocks_in rest) from))
      (apart_placed old.image.blocks new rest (all_front (λ x. AllByRecursion (IsOther x) new.image.blocks) old.image.blocks (blocks_in rest) from)
      (distinct_apart old.image.blocks (blocks_in rest) q)))
]

-- ---- the same in the words of pools

-- no block of one list is in the other
abbrev HasOwn : List ℕ → List ℕ → Type 0
HasOwn xs ys = (n : ℕ) → Contains xs n → ¬ Contains ys n

first_of : (x : ℕ) (xs : List ℕ) → Contains (x ∷ xs) x
first_of x xs = Contains-append_left (x ∷ []) xs x (Contains-push [] x)

is_other : (x : ℕ) (ys : List ℕ) → ¬ Contains ys x → AllByRecursion (IsOther x) ys
is_other x [] out = tt
is_other x (y ∷ ys) out = (
  ne_eqb x y (λ same. out (subst (Contains (y ∷ ys)) (sym same) (first_of y ys))),
  is_other x ys (λ there. out (Contains-append_right (y ∷ []) ys x there)),
)

pub apart_of : (xs ys : List ℕ) → HasOwn xs ys → AreApart xs ys
apart_of [] ys own = tt
apart_of (x ∷ xs) ys own = (
  is_other x ys (own x (first_of x xs)),
  apart_of xs ys (λ n there. own n (Contains-append_right (x ∷ []) xs n there)),
)

pub below_placed : (P : ℕ → Type 0) (new : Entry Stored) (es : List (Entry Stored)) → All P new.image.blocks
    → All P (blocks_in es) → All P (blocks_in (placed new es))
below_placed P new es p q = All-from_recursion P (blocks_in (placed new es))
    (all_placed P new es (recursion_from_All P new.image.blocks p) (recursion_from_All P (blocks_in es) q))

pub blocks_apart : (new : Entry Stored) (es : List (Entry Stored)) → IsApart new.image.blocks → IsApart (blocks_in es)
    → HasOwn new.image.blocks (blocks_in es) → IsApart (blocks_in (placed new es))
blocks_apart new es p q own = AllPairs-from_IsDistinct Decides-eqb (blocks_in (placed new es))
    (distinct_placed new es
    (IsDistinct-from_AllPairs Decides-eqb new.image.blocks p)
    (IsDistinct-from_AllPairs Decides-eqb (blocks_in es) q)
    (apart_of new.image.blocks (blocks_in es) own)
    (apart_of (blocks_in es) new.image.blocks (λ n there here. own n here there)))
