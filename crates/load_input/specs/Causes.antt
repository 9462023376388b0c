-- When a fault is answered that has another type than the call's own `Failed`.
use Rattle.std.specs.Prelude.{◌≡◌, ℕ, ◌≤◌, Result, IsErrOf}
use Rattle.edge_board.specs.Causes.{Rose}

-- This fault is answered exactly where the object counted one.
pub record HasLoadCause {T E : Type 0} (fault : E) (before now : ℕ) (result : Result T E) : Type 0 where
  pub later : before ≤ now
  pub calm : ¬ IsErrOf result fault → now ≡ before
  pub failed : IsErrOf result fault → Rose before now
