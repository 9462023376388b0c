-- What a reader of lines has passed.
use Rattle.std.specs.Prelude.{◌≡◌, ℕ, List, [], ◌++◌}
use Rattle.std.specs.List.{AllByRecursion}
use Rattle.recipe_text.specs.Lines.{IsLine, lines_text, kept}

-- a place in a text: what hasn't been passed, and how many lines have
pub record Place : Type 0 where
  pub rest : List ℕ
  pub number : ℕ

-- Lines that are skipped stand in front, and then the rest.
pub record Skips (octets : List ℕ) (skipped : List (List ℕ)) (rest : List ℕ) : Type 0 where
  pub text : octets ≡ lines_text skipped ++ rest
  pub lines : AllByRecursion IsLine skipped
  pub none : kept skipped ≡ []
