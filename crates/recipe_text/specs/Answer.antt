-- What a reader of recipes may answer: the plan of a recipe, or the first bad line of any other text, each exactly.
-- Nothing is said where memory is wanting.
use Rattle.std.specs.Prelude.{◌≡◌, ◌↔◌, ℕ, Result, Ok, Err}
use Rattle.recipe_text.specs.declared.bad_line.RecipeFault.{RecipeFault}
use Rattle.recipe_text.specs.declared.bad_line.RecipeFault.TheVariants.{Bad, Memory}

-- the answer is a plan exactly where the text is a recipe, and then its plan
abbrev pub Gives : {P V : Type 0} → (P → V) → Result P RecipeFault → (V → Type 0) → Type 0
Gives {P} {V} view (Ok p) IsRecipe = (v : V) → (view p ≡ v) ↔ IsRecipe v
Gives {P} {V} view (Err (Bad line)) IsRecipe = (v : V) → IsRecipe v → ⊥
Gives {P} {V} view (Err Memory) IsRecipe = Unit {0}

-- the answer is a bad line exactly where the text has a first bad line, and then its number
abbrev pub Refuses : {P : Type 0} → Result P RecipeFault → (ℕ → Type 0) → Type 0
Refuses (Ok p) IsFirst = (n : ℕ) → IsFirst n → ⊥
Refuses (Err (Bad line)) IsFirst = (n : ℕ) → (line.0 ≡ n) ↔ IsFirst n
Refuses (Err Memory) IsFirst = Unit {0}
