-- The head of an element: its tag and its length, without the contents (X.690, sections 8.1.2, 8.1.3 and 10.1).
use Rattle.std.specs.Prelude.{◌≡◌, ℕ, ◌<◌, ◌%◌, ◌^◌, List, [], ◌∷◌, ◌++◌, ◌==◌, if◌then◌else◌, Result, Ok, Err}
use Rattle.der_core.specs.declared.fault.DerFault.{DerFault}
use Rattle.der_core.specs.declared.fault.DerFault.TheVariants.{Short, Malformed}
use Rattle.der_core.specs.Element.{length_octets}
use Rattle.der_core.specs.Reading.{◌>>=◌, length_at}

-- the tag octet, and then the length of the contents in the fewest octets
abbrev pub head_octets : ℕ → ℕ → List ℕ
head_octets tag size = tag ∷ length_octets size

-- a tag of one octet, whose low five bits aren't all ones (8.1.2.4), and a length of at most four octets
pub record IsHead (tag size : ℕ) : Type 0 where
  pub octet : tag < 256
  pub low_bits : tag % 32 < 31
  pub fits : size < 2 ^ 32

-- the octets begin with this length
pub record BeginsWithLength (octets : List ℕ) (size : ℕ) : Type 0 where
  pub fits : size < 2 ^ 32
  pub rest : List ℕ
  pub text : octets ≡ length_octets size ++ rest

-- the octets begin with this head
pub record BeginsWith (octets : List ℕ) (tag size : ℕ) : Type 0 where
  pub head : IsHead tag size
  pub rest : List ℕ
  pub text : octets ≡ head_octets tag size ++ rest

-- the octets begin with none: Short says that they can go on to begin with one, and Malformed that they can't
abbrev pub IsNone : (List ℕ → Type 0) → DerFault → List ℕ → Type 0
IsNone Begins Short octets = (Begins octets → ⊥) × ((more : List ℕ) × Begins (octets ++ more))
IsNone Begins Malformed octets = (more : List ℕ) → Begins (octets ++ more) → ⊥

-- why octets begin with no length
abbrev pub IsNoLength : DerFault → List ℕ → Type 0
IsNoLength fault octets = IsNone (λ octets. (size : ℕ) × BeginsWithLength octets size) fault octets

-- why octets begin with no head
abbrev pub IsNoHead : DerFault → List ℕ → Type 0
IsNoHead fault octets = IsNone (λ octets. (tag : ℕ) × (size : ℕ) × BeginsWith octets tag size) fault octets

-- the head at the front, and what follows it, as it is read
unfoldable pub head_at : List ℕ → Result (ℕ × (ℕ × List ℕ)) DerFault
head_at [] = Err Short
head_at (tag ∷ bytes) = if tag % 32 == 31 then Err Malformed else (length_at bytes >>= λ n. Ok (tag, n))
