-- Elements of DER: a tag octet, the length of the contents in the fewest octets, and the contents
-- (X.690, sections 8.1 and 10.1).
use Rattle.std.specs.Prelude.{◌≡◌, ℕ, ◌+◌, ◌<◌, ◌%◌, ◌^◌, List, [], ◌∷◌, ◌++◌, length, get_or, nat_lt, if◌then◌else◌}
use Rattle.std.specs.Int.Digits.{digits_of}

-- numbers below 256
abbrev pub AreOctets : List ℕ → Type 0
AreOctets octets = (i : ℕ) → get_or octets i 0 < 256

-- a length below 128 is itself (8.1.3.4); any other is 128 and the count of its base 256 digits, and
-- then these digits, high first (8.1.3.5 and 10.1)
unfoldable pub length_octets : ℕ → List ℕ
length_octets n =
    if nat_lt n 128 then n ∷ []
    else (128 + length (digits_of 256 n)) ∷ digits_of 256 n

-- the element's octets: tag, length and contents (8.1.1)
unfoldable pub enc : ℕ → List ℕ → List ℕ
enc tag contents = tag ∷ (length_octets (length contents) ++ contents)

-- a tag of one octet, whose low five bits aren't all ones (8.1.2.4), and contents that its length
-- can count in four octets
pub record IsElement (tag : ℕ) (contents : List ℕ) : Type 0 where
  pub octet : tag < 256
  pub low_bits : tag % 32 < 31
  pub fits : length contents < 2 ^ 32

-- contents that an element has room for
abbrev pub HasRoom : List ℕ → Type 0
HasRoom contents = length contents < 2 ^ 32

-- the octets are one element of this tag
pub record IsTagged (tag : ℕ) (octets : List ℕ) : Type 0 where
  pub contents : List ℕ
  pub element : IsElement tag contents
  pub text : octets ≡ enc tag contents

-- a front of the octets is an element
abbrev pub HasElement : List ℕ → Type 0
HasElement bytes =
    (tag : ℕ) × (contents : List ℕ) × (rest : List ℕ) × IsElement tag contents
    × (bytes ≡ enc tag contents ++ rest)

-- a front of the octets is an element of this tag
abbrev pub HasTagged : ℕ → List ℕ → Type 0
HasTagged tag bytes =
    (contents : List ℕ) × (rest : List ℕ) × IsElement tag contents × (bytes ≡ enc tag contents ++ rest)

-- the octets are a front of an element
abbrev pub BeginsElement : List ℕ → Type 0
BeginsElement bytes =
    (tag : ℕ) × (contents : List ℕ) × (more : List ℕ) × IsElement tag contents
    × (bytes ++ more ≡ enc tag contents)
