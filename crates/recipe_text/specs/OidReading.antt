-- The reading of a dotted identifier, in the order in which the code reads. Nothing here has to be believed.
use Rattle.std.specs.Prelude.{◌≡◌, ◌≢◌, ℕ, ◌+◌, ◌-◌, ◌<◌, ◌^◌, Bool, true, false, List, [], ◌∷◌, ◌++◌, Option, Some, None}
use Rattle.std.specs.Prelude.{nat_lt, ◌==◌, if◌then◌else◌}
use Rattle.std.specs.Fmt.{decimal}
use Rattle.std.specs.List.{AllByRecursion, flat_map}
use Rattle.der_core.specs.Objects.{AreSmall, oid_contents, dotted_first}

-- what stands behind a component: nothing, or a dot and this
abbrev pub tail_text : Option (List ℕ) → List ℕ
tail_text None = []
tail_text (Some text) = 46 ∷ text

-- octets without a dot, and what stands behind them
pub record IsFront (text front : List ℕ) (rest : Option (List ℕ)) : Type 0 where
  pub parts : text ≡ front ++ tail_text rest
  pub whole : AllByRecursion (λ o. o ≢ 46) front

-- the subidentifier of the first two components, of which the first is this digit
unfoldable pub joined : ℕ → ℕ → Option ℕ
joined digit n =
    if digit == 48 then (if nat_lt n 40 then Some n else None)
    else if digit == 49 then (if nat_lt n 40 then Some (n + 40) else None)
    else if digit == 50 then (if nat_lt n (2 ^ 128 - 80) then Some (n + 80) else None)
    else None

-- the first two components are those of this subidentifier
pub record FirstOf (word : List ℕ) (s : ℕ) (rest : Option (List ℕ)) : Type 0 where
  pub small : s < 2 ^ 128
  pub parts : word ≡ dotted_first s ++ tail_text rest

-- components, each with a dot before it
abbrev pub others : List ℕ → List ℕ
others ss = flat_map (λ s. 46 ∷ decimal s) ss

-- the text is such components, whose subidentifiers are appended, or isn't
abbrev pub Spells : List ℕ → List ℕ → List ℕ → Bool → Type 0
Spells text old new true = (ss : List ℕ) × AreSmall ss × (text ≡ others ss) × (new ≡ old ++ oid_contents ss)
Spells text old new false = (ss : List ℕ) → AreSmall ss → text ≡ others ss → ⊥
