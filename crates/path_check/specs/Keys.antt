-- What is told of a key identifier.
use Rattle.std.specs.Prelude.{◌≡◌, ◌↔◌, ℕ, List, Option, Some}

-- the key identifier that is told is the one that is there
abbrev pub TellsKey : (List ℕ → Type 0) → Option (List ℕ) → Type 0
TellsKey IsKey told = (key : List ℕ) → IsKey key ↔ (told ≡ Some key)
