-- The contents of an INTEGER that isn't negative (X.690, section 8.3).
use Rattle.std.specs.Prelude.{◌≡◌, ◌-◌, ◌*◌, ◌<◌, ◌≤◌, ◌^◌, length, ℕ, List, [], ◌∷◌, nat_lt, if◌then◌else◌}
use Rattle.std.specs.Int.Digits.{digits_of, number_from_digits}

-- digits whose top bit is not set, so that they aren't read as a negative number (8.3.3); one at least (8.3.1)
abbrev pub not_negative : List ℕ → List ℕ
not_negative [] = 0 ∷ []
not_negative (d ∷ ds) = if nat_lt d 128 then d ∷ ds else 0 ∷ d ∷ ds

-- the number's contents: its base 256 digits, high first (8.3.3)
unfoldable pub number_contents : ℕ → List ℕ
number_contents n = not_negative (digits_of 256 n)

-- these octets stand for n, read as two's complement, and no fewer octets can (8.3.2)
pub record IsFewest (n : ℕ) (octets : List ℕ) : Type 0 where
  pub number : number_from_digits 256 octets ≡ n
  pub some : 0 < length octets
  pub holds : n < 128 * 256 ^ (length octets - 1)
  pub least : (k : ℕ) → 0 < k → n < 128 * 256 ^ (k - 1) → length octets ≤ k
