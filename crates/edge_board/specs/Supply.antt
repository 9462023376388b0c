-- What a source means.
use Rattle.std.specs.Prelude.{ℕ, List, Option}

-- What a source still gives, and its counts.
pub record Supply : Type 0 where
  -- the octets not yet read, where the source tells them
  pub left : Option (List ℕ)
  -- how many octets it gave
  pub taken : ℕ
  -- how many reads failed
  pub faults : ℕ
