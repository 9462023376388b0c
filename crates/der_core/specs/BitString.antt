-- The contents of a BIT STRING (X.690, sections 8.6 and 11.2).
use Rattle.std.specs.Prelude.{◌≡◌, ℕ, ◌-◌, ◌%◌, ◌^◌, ◌≤◌, length, List, ◌∷◌, slice_index}

-- the number of unused bits, and then the octets that hold the bits (8.6.2)
unfoldable pub bits_contents : ℕ × List ℕ → List ℕ
bits_contents bits = bits.0 ∷ bits.1

-- a number of unused bits, and octets
pub record IsBits (bits : ℕ × List ℕ) : Type 0 where
  pub unused : bits.0 ≤ 7  -- 8.6.2.2
  pub none : length bits.1 ≡ 0 → bits.0 ≡ 0  -- 8.6.2.3
  pub zeros : slice_index bits.1 (length bits.1 - 1) % 2 ^ bits.0 ≡ 0  -- 11.2.1
