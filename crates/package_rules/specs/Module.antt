-- A hardware module as packages see it.
use Rattle.std.specs.Prelude.{ℕ, List}

-- its hardware type and serial number (RFC 4108, sections 2.2.4 and 2.2.8), the communities that it is in, by their
-- identifiers (2.2.8), and the package types that it takes (2.2.9)
pub record Module : Type 0 where
  pub hw_type : List ℕ
  pub serial : List ℕ
  pub communities : List (List ℕ)
  pub kinds : List ℕ
