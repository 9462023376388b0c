-- An object identifier's dotted text, by its contents octets (X.690, section 8.19).
use Rattle.std.specs.Prelude.{ℕ, List, [], Option, Some, None}
use Rattle.der_core.specs.Objects.{dotted}
use Rattle.der_core.specs.Reading.{subidentifiers_of}

-- the dotted text of the subidentifiers, where there are any
abbrev pub dotted_if : Option (List ℕ) → List ℕ
dotted_if None = []
dotted_if (Some numbers) = dotted numbers

-- the dotted text of the subidentifiers that the octets spell
abbrev pub dotted_of : List ℕ → List ℕ
dotted_of octets = dotted_if (subidentifiers_of octets)
