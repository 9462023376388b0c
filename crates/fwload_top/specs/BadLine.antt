-- The line of a recipe that is none; this project's own.
use Rattle.std.specs.Prelude.{◌≡◌, ℕ, List, ◌++◌, codes}
use Rattle.std.specs.Fmt.{decimal}
use Rattle.recipe_text.specs.declared.bad_line.RecipeFault.{RecipeFault}
use Rattle.recipe_text.specs.declared.bad_line.RecipeFault.TheVariants as faults

-- the line of a recipe whose first bad line is this one, counted from 1
abbrev pub line_refused : ℕ → List ℕ
line_refused n = codes "refused line " ++ (decimal n ++ codes "\n")

-- it is that this line is bad
abbrev pub IsBad : RecipeFault → ℕ → Type 0
IsBad (faults.Bad bad) n = bad.0 ≡ n
IsBad faults.Memory n = ⊥

-- a line is bad in this way, or memory was wanting
abbrev pub IsFoundBad : (ℕ → Type 0) → RecipeFault → Type 0
IsFoundBad bad_at (faults.Bad bad) = bad_at bad.0
IsFoundBad bad_at faults.Memory = Unit {0}
