-- A SET OF as DER writes it: the parts in ascending order of their octets (X.690, section 11.6).
use Rattle.std.specs.Prelude.{◌≡◌, ℕ, List, IsSorted, IsPermutation}
use Rattle.std.specs.List.{concat}
use Rattle.std.specs.Ordering.{nat_cmp}
use Rattle.std.specs.Cmp.Lexicographic.{slice_cmp}
use Rattle.der_core.specs.Element.{enc}

-- These are the parts, each before those that are greater by the first octet in which they differ.
pub record Ascends (parts ordered : List (List ℕ)) : Type 0 where
  pub same : IsPermutation parts ordered
  pub ascending : IsSorted (slice_cmp nat_cmp) ordered

-- The octets are the parts one after the other, in ascending order: the contents of their SET, whatever its tag.
abbrev pub IsSetContents : List (List ℕ) → List ℕ → Type 0
IsSetContents parts octets = (ordered : List (List ℕ)) × Ascends parts ordered × (octets ≡ concat ordered)

-- The octets are the SET of these parts, in ascending order.
abbrev pub IsSetOf : List (List ℕ) → List ℕ → Type 0
IsSetOf parts octets = (contents : List ℕ) × IsSetContents parts contents × (octets ≡ enc 0x31 contents)
