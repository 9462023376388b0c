-- Texts in ascending order of their octets, each of them once, and texts one after the other.
use Rattle.std.specs.Prelude.{◌≡◌, ◌↔◌, ℕ, List, [], ◌∷◌, ◌++◌, Contains, map}
use Rattle.std.specs.Borrow.{Bor}
use Rattle.std.specs.Cmp.Lexicographic.{slice_cmp}
use Rattle.std.specs.List.Sorted.{IsStrictlySortedBy}
use Rattle.std.specs.Ordering.{nat_cmp}

-- exactly the octets of which this holds, strictly ascending
pub record AreExactly (P : List ℕ → Type 0) (texts : List (List ℕ)) : Type 0 where
  pub ascend : IsStrictlySortedBy (slice_cmp nat_cmp) texts
  pub each : (text : List ℕ) → Contains texts text ↔ P text

-- the octets are texts, one for each of these, one after the other
abbrev pub AreTexts : {X : Type 0} → (X → List ℕ → Type 0) → List X → List ℕ → Type 0
AreTexts IsText [] octets = octets ≡ []
AreTexts IsText (x ∷ xs) octets =
    (text : List ℕ) × (rest : List ℕ) × IsText x text × AreTexts IsText xs rest × (octets ≡ text ++ rest)

-- octets behind others are a text
abbrev pub Adds : (List ℕ → Type 0) → List ℕ → List ℕ → Type 0
Adds IsText before after = (text : List ℕ) × IsText text × (after ≡ before ++ text)

-- octets that are lent
abbrev pub lent : List (Bor (List ℕ)) → List (List ℕ)
lent slices = map (λ slice. slice.now) slices
