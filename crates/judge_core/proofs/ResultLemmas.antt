-- What is said of an answer goes on.
use Rattle.std.proofs.Common.{Result, Ok, Err, IfOk}

module _ {A E : Type 0} (P Q : A → Type 0) where
  pub if_ok : (r : Result A E) → ((a : A) → P a → Q a) → IfOk r P → IfOk r Q
  if_ok (Ok a) goes said = goes a said
  if_ok (Err e) goes said = tt
