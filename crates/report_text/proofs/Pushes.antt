-- Texts that grow at their end.
use Rattle.std.proofs.Common.{◌≡◌, ℕ, List, ◌++◌, Result, Ok, Err, ap, ◌∙◌, append_assoc}
use Rattle.std.specs.Prelude.{OnOk}

-- what was pushed in two parts was pushed as one
pub pushed_then : {T E : Type 0} (result : Result T E) (before between after x y : List ℕ)
    → between ≡ before ++ x → OnOk result (after ≡ between ++ y) → OnOk result (after ≡ before ++ (x ++ y))
pushed_then (Ok v) before between after x y first second =
    second ∙ ap (λ (l : List ℕ). l ++ y) first ∙ append_assoc before x y
pushed_then (Err e) before between after x y first second = tt
