-- What a reader of recipes makes of one more line. Nothing here has to be believed.
use Rattle.std.specs.Prelude.{◌≡◌, Bool, true, false, List, [], ◌∷◌, ◌++◌}

-- more behind what there is
abbrev pub grown : {A : Type 0} → List A → List A → List A
grown xs [] = xs
grown xs (y ∷ ys) = xs ++ y ∷ ys

-- The line says one entry, which may stand with those before it, and is taken; or it says none that may.
abbrev pub Takes : {E P : Type 0} → (E → Type 0) → (P → Type 0) → (P → E → P) → P → P → Bool → Type 0
Takes {E} {P} IsSaid IsFit grow old new true =
    (e : E) × IsSaid e × ((f : E) → IsSaid f → f ≡ e) × (new ≡ grow old e) × IsFit new
Takes {E} {P} IsSaid IsFit grow old new false = (e : E) → IsSaid e → IsFit (grow old e) → ⊥
