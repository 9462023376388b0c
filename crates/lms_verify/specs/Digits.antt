-- Numbers as octets, strings of w-bit digits, and the checksum (RFC 8554, sections 3.1 and 4.4).
-- Octets are read as one whole number, and a digit is what division leaves of it.
use Rattle.std.specs.Prelude.{ℕ, ◌+◌, ◌-◌, ◌*◌, ◌/◌, ◌%◌, ◌^◌, List, [], ◌∷◌, ◌++◌, length, map}
use Rattle.std.specs.Int.{w16, w32, to_be_bytes}
use Rattle.std.specs.Int.Digits.{number_from_digits}
use Rattle.std.specs.List.{range_with_len, sum_by}
use Rattle.lms_verify.specs.declared.kind.OtsKind.{OtsKind}
use Rattle.lms_verify.specs.Kinds.{width, chain_count, checksum_shift}

-- a number as one octet, as two and as four, the highest first (3.1.2: u8str, u16str, u32str)
abbrev pub u8str : ℕ → List ℕ
u8str n = n ∷ []

abbrev pub u16str : ℕ → List ℕ
u16str n = to_be_bytes w16 n

abbrev pub u32str : ℕ → List ℕ
u32str n = to_be_bytes w32 n

-- the numbers from 0 to n - 1
abbrev pub below : ℕ → List ℕ
below n = range_with_len 0 n

-- the whole number that octets write, the highest first
abbrev pub number_of : List ℕ → ℕ
number_of octets = number_from_digits 256 octets

-- digit i of octets that are read as digits of w bits, the highest first (3.1.3: coef)
abbrev pub digit : ℕ → List ℕ → ℕ → ℕ
digit w octets i = number_of octets / 2 ^ (8 * length octets - w * (i + 1)) % 2 ^ w

-- the first n of those digits
abbrev pub digits : ℕ → List ℕ → ℕ → List ℕ
digits w octets n = map (λ i. digit w octets i) (below n)

-- how far the digits of a message value are below the greatest one, in all, moved left (4.4)
abbrev pub checksum : OtsKind → List ℕ → ℕ
checksum ots value =
    let w = width ots in
    sum_by (λ d. 2 ^ w - 1 - d) (digits w value (8 * length value / w)) * 2 ^ checksum_shift ots

-- a message value and its checksum (4.5, step 6: Q || Cksm(Q))
abbrev pub checked_value : OtsKind → List ℕ → List ℕ
checked_value ots value = value ++ u16str (checksum ots value)

-- the digits a[0] to a[p - 1] of a message value and its checksum (4.5, 4.6)
abbrev pub message_digits : OtsKind → List ℕ → List ℕ
message_digits ots value = digits (width ots) (checked_value ots value) (chain_count ots)
