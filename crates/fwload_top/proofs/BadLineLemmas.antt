-- Why a text is no recipe.
use Rattle.std.proofs.Common.{ℕ, Err, refl, subst}
use Rattle.recipe_text.specs.declared.bad_line.RecipeFault.{RecipeFault}
use Rattle.recipe_text.specs.declared.bad_line.RecipeFault.TheVariants as faults
use Rattle.recipe_text.specs.Answer.{Refuses}
use Rattle.fwload_top.specs.BadLine.{IsBad, IsFoundBad}

-- a fault of a reader tells why
pub found_bad : (P : Type 0) (bad_at : ℕ → Type 0) (fault : RecipeFault)
    → Refuses {P = P} (Err fault) bad_at → IsFoundBad bad_at fault
found_bad P bad_at (faults.Bad line) refuses = (refuses line.0).0 refl
found_bad P bad_at faults.Memory refuses = tt

-- and which line it is
pub found_at : (bad_at : ℕ → Type 0) (fault : RecipeFault) (n : ℕ) → IsFoundBad bad_at fault → IsBad fault n → bad_at n
found_at bad_at (faults.Bad line) n found is = subst bad_at is found
found_at bad_at faults.Memory n found is = absurd is
