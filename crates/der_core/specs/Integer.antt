-- The contents of an INTEGER or an ENUMERATED, of either sign (X.690, sections 8.3 and 8.4).
use Rattle.std.specs.Prelude.{◌≡◌, ℕ, ℤ, pos, negsuc, ◌-ℤ◌, ◌-◌, ◌^◌, ◌<◌, ◌≤◌, length, List, map, slice_index}
use Rattle.std.specs.Prelude.{nat_lt, if◌then◌else◌}
use Rattle.std.specs.Int.Digits.{number_from_digits}
use Rattle.der_core.specs.Element.{AreOctets}
use Rattle.der_core.specs.Number.{number_contents}

-- one octet at least (8.3.1), and the first octet and the top bit of the second are not all zeros, nor all ones (8.3.2)
pub record IsInteger (octets : List ℕ) : Type 0 where
  pub some : 0 < length octets
  pub not_zeros : 1 < length octets → slice_index octets 0 ≡ 0x00 → 0x80 ≤ slice_index octets 1
  pub not_ones : 1 < length octets → slice_index octets 0 ≡ 0xFF → slice_index octets 1 < 0x80

-- the number that octets stand for: their base 256 digits, less the whole range where the top bit is set (8.3.3)
abbrev pub twos_complement : List ℕ → ℤ
twos_complement octets =
    if nat_lt (slice_index octets 0) 0x80 then pos (number_from_digits 256 octets)
    else pos (number_from_digits 256 octets) -ℤ pos (256 ^ length octets)

-- the contents of a number; those of one below 0, that is -n - 1, are those of n with every bit turned over (8.3.3)
abbrev pub integer_contents : ℤ → List ℕ
integer_contents (pos n) = number_contents n
integer_contents (negsuc n) = map (λ octet. 255 - octet) (number_contents n)

-- the octets' two's complement is this number, and no fewer octets' is (8.3.2)
pub record IsLeastSpelling (number : ℤ) (spelling : List ℕ) : Type 0 where
  pub octets : AreOctets spelling
  pub some : 0 < length spelling
  pub spells : twos_complement spelling ≡ number
  pub least : (others : List ℕ) → AreOctets others → 0 < length others → twos_complement others ≡ number
      → length spelling ≤ length others
