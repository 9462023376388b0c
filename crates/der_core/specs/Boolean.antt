-- The contents of a BOOLEAN (X.690, sections 8.2 and 11.1).
use Rattle.std.specs.Prelude.{ℕ, Bool, true, false, List, [], ◌∷◌}

-- one octet, all ones for true and zero for false (8.2.2, 11.1)
unfoldable pub boolean_contents : Bool → List ℕ
boolean_contents true = 0xFF ∷ []
boolean_contents false = 0x00 ∷ []
