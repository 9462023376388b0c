-- Elements of lists that are mapped.
use Rattle.std.proofs.Common.{◌≡◌, ◌<◌, ℕ, zero, suc, Bool, true, List, [], ◌∷◌, length, map, ◌⊎◌, inl, inr, refl, sym, ap, subst, ◌∙◌, arith}
use Rattle.std.specs.Prelude.{Contains, slice_index_or}
use Rattle.std.specs.List.{AllByRecursion, filter, flat_map}
use Rattle.std.proofs.lemmas.Bool.{cases_Bool}
use Rattle.std.proofs.lemmas.List.Elements.{Contains-append_left, Contains-append_right, Contains-append_cases}

pub contains_first : {X : Type 0} (x : X) (xs : List X) → Contains (x ∷ xs) x
contains_first x xs = (zero, omega arith, refl)

pub contains_later : {X : Type 0} (y x : X) (xs : List X) → Contains xs x → Contains (y ∷ xs) x
contains_later y x xs at = (suc at.0, omega (arith, at.1), at.2)

pub contains_none : {X : Type 0} (x : X) → Contains [] x → ⊥
contains_none x at = omega (arith, at.1)

-- what stands at a place
pub element_at : {X : Type 0} (xs : List X) (place : ℕ) → place < length xs → (x : X) × (slice_index_or xs place x ≡ x)
element_at [] place within = absurd (omega (arith, within))
element_at (y ∷ ys) zero within = (y, refl)
element_at (y ∷ ys) (suc k) within = element_at ys k (omega (arith, within))

-- what holds of each holds of one
pub holds_of : {X : Type 0} (P : X → Type 0) (xs : List X) (x : X) → AllByRecursion P xs → Contains xs x → P x
holds_of P [] x each at = absurd (contains_none x at)
holds_of P (y ∷ ys) x each (zero, less, is) = subst P is each.0
holds_of P (y ∷ ys) x each (suc k, less, is) = holds_of P ys x each.1 (k, omega (arith, less), is)

-- what holds of all that a list contains holds of each
pub each_of : {X : Type 0} (P : X → Type 0) (xs : List X) → ((x : X) → Contains xs x → P x) → AllByRecursion P xs
each_of P [] all = tt
each_of P (x ∷ xs) all = (all x (contains_first x xs), each_of P xs (λ y at. all y (contains_later x y xs at)))

pub contains_map : {X Y : Type 0} (f : X → Y) (xs : List X) (x : X) → Contains xs x → Contains (map f xs) (f x)
contains_map f [] x at = absurd (contains_none x at)
contains_map f (y ∷ ys) x (zero, less, is) = (zero, omega arith, ap f is)
contains_map f (y ∷ ys) x (suc k, less, is) =
    contains_later (f y) (f x) (map f ys) (contains_map f ys x (k, omega (arith, less), is))

pub contains_unmap : {X Y : Type 0} (f : X → Y) (xs : List X) (y : Y) → Contains (map f xs) y
    → (x : X) × Contains xs x × (f x ≡ y)
contains_unmap f [] y at = absurd (contains_none y at)
contains_unmap f (x ∷ xs) y (zero, less, is) = (x, contains_first x xs, is)
contains_unmap f (x ∷ xs) y (suc k, less, is) =
    let found = contains_unmap f xs y (k, omega (arith, less), is) in
    (found.0, contains_later x found.0 xs found.1, found.2)

-- what is among those that pass a test
kept_later : {X : Type 0} (p : X → Bool) (y : X) (ys : List X) (x : X) → Contains (filter p ys) x
    → Contains (filter p (y ∷ ys)) x
kept_later p y ys x at = elim (cases_Bool (p y)) [
  | inl is ↦ rw is (contains_later y x (filter p ys) at)
  | inr is ↦ rw is at
]

pub contains_filter : {X : Type 0} (p : X → Bool) (xs : List X) (x : X) → Contains xs x → p x ≡ true
    → Contains (filter p xs) x
contains_filter p [] x at passes = absurd (contains_none x at)
contains_filter p (y ∷ ys) x (zero, less, same) passes = rw (ap p same ∙ passes) (zero, omega arith, same)
contains_filter p (y ∷ ys) x (suc k, less, same) passes =
    kept_later p y ys x (contains_filter p ys x (k, omega (arith, less), same) passes)

first_or_later : {X : Type 0} (p : X → Bool) (y : X) (ys : List X) (x : X) → Contains (filter p (y ∷ ys)) x
    → ((y ≡ x) × (p y ≡ true)) ⊎ Contains (filter p ys) x
first_or_later {X} p y ys x at = elim (cases_Bool (p y)) [
  | inl is ↦ here is (rw is at at)
  | inr is ↦ inr (rw is at at)
]
  where
    here : p y ≡ true → Contains (y ∷ filter p ys) x → ((y ≡ x) × (p y ≡ true)) ⊎ Contains (filter p ys) x
    here is (zero, less, same) = inl (same, is)
    here is (suc k, less, same) = inr (k, omega (arith, less), same)

pub contains_unfilter : {X : Type 0} (p : X → Bool) (xs : List X) (x : X) → Contains (filter p xs) x
    → Contains xs x × (p x ≡ true)
contains_unfilter p [] x at = absurd (contains_none x at)
contains_unfilter p (y ∷ ys) x at = elim (first_or_later p y ys x at) [
  | inl first ↦ ((zero, omega arith, first.0), ap p (sym first.0) ∙ first.1)
  | inr later ↦
      let found = contains_unfilter p ys x later in (contains_later y x ys found.0, found.1)
]

-- what is in one of the lists that elements give
pub contains_flat : {X Y : Type 0} (f : X → List Y) (xs : List X) (x : X) (y : Y) → Contains xs x → Contains (f x) y
    → Contains (flat_map f xs) y
contains_flat f [] x y at in_it = absurd (contains_none x at)
contains_flat f (z ∷ zs) x y (zero, less, is) in_it =
    Contains-append_left (f z) (flat_map f zs) y (subst (λ w. Contains (f w) y) (sym is) in_it)
contains_flat f (z ∷ zs) x y (suc k, less, is) in_it =
    Contains-append_right (f z) (flat_map f zs) y (contains_flat f zs x y (k, omega (arith, less), is) in_it)

pub contains_unflat : {X Y : Type 0} (f : X → List Y) (xs : List X) (y : Y) → Contains (flat_map f xs) y
    → (x : X) × Contains xs x × Contains (f x) y
contains_unflat f [] y at = absurd (contains_none y at)
contains_unflat f (x ∷ xs) y at = elim (Contains-append_cases (f x) (flat_map f xs) y at) [
  | inl here ↦ (x, contains_first x xs, here)
  | inr there ↦
      let found = contains_unflat f xs y there in (found.0, contains_later x found.0 xs found.1, found.2)
]
