-- Values that are kept as their octets, one after the other.
use Rattle.std.specs.Prelude.{◌≡◌, ℕ, List, [], Some}
use Rattle.std.specs.Option.{unwrap_or}
use Rattle.der_core.specs.Shapes.{Front, listed}

-- the values that octets are
abbrev pub items_of : {V : Type 0} → Front V → List ℕ → List V
items_of front octets = unwrap_or (listed front octets) []

-- octets that are values, all of them
abbrev pub AreItems : {V : Type 0} → Front V → List ℕ → Type 0
AreItems front octets = listed front octets ≡ Some (items_of front octets)
