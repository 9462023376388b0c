-- How long a text is.
use Rattle.std.proofs.Common.{ℕ, ◌+◌, ◌^◌, ◌<◌, ◌≤◌}
use Rattle.std.proofs.Common.{List, [], ◌∷◌, length}
use Rattle.std.proofs.Common.{arith, inl, inr}
use Rattle.std.proofs.lemmas.Bool.{lt-ltb, le-ltb, cases_lt}
use Rattle.std.specs.Int.Digits.{digits_of}
use Rattle.std.proofs.lemmas.Int.Digits.{length-digits_of-le}
use Rattle.der_core.proofs.Places.{length-enc}
use Rattle.der_core.specs.Element.{length_octets, enc}
use Rattle.der_core.specs.Number.{not_negative, number_contents}

length-length_octets : (n : ℕ) → n < 2 ^ 32 → length (length_octets n) ≤ 5
unfolding length_octets
length-length_octets n small = elim (cases_lt n 128) [
  | inl lt ↦ rw (lt-ltb n 128 lt) (omega arith)
  | inr le ↦ rw (le-ltb n 128 le) (omega (arith, length-digits_of-le 256 4 n (omega arith) (omega arith)))
]

pub length-enc-le : (tag : ℕ) (contents : List ℕ) → length contents < 2 ^ 32
    → length (enc tag contents) ≤ length contents + 6
length-enc-le tag contents small =
    omega (arith, length-enc tag contents, length-length_octets (length contents) small)

pub length-number-le : (n : ℕ) → n < 2 ^ 128 → length (number_contents n) ≤ 17
unfolding number_contents
length-number-le n small = padded (digits_of 256 n) (length-digits_of-le 256 16 n (omega arith) (omega arith))
  where
    padded : (ds : List ℕ) → length ds ≤ 16 → length (not_negative ds) ≤ 17
    padded [] h = omega arith
    padded (d ∷ ds) h = elim (cases_lt d 128) [
      | inl lt ↦ rw (lt-ltb d 128 lt) (omega (arith, h))
      | inr le ↦ rw (le-ltb d 128 le) (omega (arith, h))
    ]
