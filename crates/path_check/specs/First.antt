-- The first element of a list of which something holds, by its place.
use Rattle.std.specs.Prelude.{ℕ, ◌<◌, List, Option, None, Some, slice_get}
use Rattle.std.specs.Option.{IsSomeAnd}

-- P holds of the element at this place, and one is there
abbrev pub HoldsAt : {A : Type 0} → (A → Type 0) → List A → ℕ → Type 0
HoldsAt P items place = IsSomeAnd (slice_get items place) P

-- it holds of no element
abbrev pub HasNone : {A : Type 0} → (A → Type 0) → List A → Type 0
HasNone P items = (i : ℕ) → ¬ HoldsAt P items i

-- it holds of the element at this place, and of none before it
pub record IsFirst {A : Type 0} (P : A → Type 0) (items : List A) (place : ℕ) : Type 0 where
  pub fits : HoldsAt P items place
  pub before : (i : ℕ) → i < place → ¬ HoldsAt P items i

-- the place of the first, or None where there is none
abbrev pub TellsFirst : {A : Type 0} → (A → Type 0) → List A → Option ℕ → Type 0
TellsFirst P items None = HasNone P items
TellsFirst P items (Some place) = IsFirst P items place
