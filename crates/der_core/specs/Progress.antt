-- What is seen of a splitter, and what that says of the octets that its item has had.
use Rattle.std.specs.Prelude.{◌≡◌, ℕ, ◌+◌, List, length, take, Option, Some, MatchOption}
use Rattle.der_core.specs.Element.{length_octets}
use Rattle.der_core.specs.Head.{BeginsWith}
use Rattle.der_core.specs.Items.{IsSequence, HasSequence, BeginsSequence}

-- the item's first octets, and how many it has had; no number where no SEQUENCE begins so
pub record Progress : Type 0 where
  pub head : List ℕ
  pub count : Option ℕ

-- an item that has had these octets is seen so
pub record Sees (seen : Progress) (item : List ℕ) : Type 0 where
  pub head : seen.head ≡ take 6 item
  pub count :
      MatchOption seen.count (BeginsSequence item → ⊥) (λ count. (count ≡ length item) × BeginsSequence item)

-- the octets begin with the tag 30 (hex) and this length (X.690, section 8.1.3)
abbrev pub Declares : List ℕ → ℕ → Type 0
Declares octets size = BeginsWith octets 0x30 size

-- how many octets a SEQUENCE with contents of this size has: tag, length and contents
abbrev pub sequence_size : ℕ → ℕ
sequence_size size = 1 + length (length_octets size) + size

-- the item has all the octets that it declares
abbrev pub HasEnded : Progress → Type 0
HasEnded seen = (size : ℕ) × Declares seen.head size × (seen.count ≡ Some (sequence_size size))

-- an item is seen so that has no octet behind a whole SEQUENCE
pub record Reaches (seen : Progress) : Type 0 where
  pub item : List ℕ
  pub sees : Sees seen item
  pub last : HasSequence item → IsSequence item
