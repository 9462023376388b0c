-- A text whose last octets are a signature.
use Rattle.std.specs.Prelude.{ℕ, ◌≤◌, List, length}
use Rattle.signed_write.specs.declared.unsigned.Places.{Places}

-- The octets before the signature, those that are signed, and how many octets the signature has. Nothing stands behind
-- the signature.
pub record Parts : Type 0 where
  pub before : List ℕ
  pub signed : List ℕ
  pub size : ℕ

-- what is signed stands before the signature, and the signature within the octets
pub record IsWithin (places : Places) (octets : List ℕ) : Type 0 where
  pub ordered : places.from ≤ places.to
  pub signed : places.to ≤ places.signature
  pub signature : places.signature ≤ length octets
