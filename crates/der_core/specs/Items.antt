-- Items of octets: the SEQUENCE elements (X.690, section 8.9) that stand at their front, one after the other, and
-- then all that remains as one item.
use Rattle.std.specs.Prelude.{◌≡◌, ℕ, zero, suc, ◌<◌, List, [], ◌∷◌, ◌++◌, length, ◌⊎◌}
use Rattle.std.specs.List.{flat_map, AllByRecursion}
use Rattle.std.specs.Option.{option_map_or}
use Rattle.der_core.specs.Element.{enc, IsTagged}
use Rattle.der_core.specs.Reading.{tagged_of}

-- the octets are one element of tag 30 (hex)
abbrev pub IsSequence : List ℕ → Type 0
IsSequence octets = IsTagged 0x30 octets

-- a front of the octets is such an element
pub record HasSequence (octets : List ℕ) : Type 0 where
  pub item : List ℕ
  pub rest : List ℕ
  pub sequence : IsSequence item
  pub text : octets ≡ item ++ rest

-- the octets can go on so that such an element stands at their front
pub record BeginsSequence (octets : List ℕ) : Type 0 where
  pub more : List ℕ
  pub whole : HasSequence (octets ++ more)

-- these are the items of the octets: a front that is such an element, and then the items of the rest;
-- else all of the octets, where there are any
abbrev pub IsItems : List ℕ → List (List ℕ) → Type 0
IsItems octets [] = octets ≡ []
IsItems octets (item ∷ others) =
    ((rest : List ℕ) × IsSequence item × (octets ≡ item ++ rest) × IsItems rest others)
    ⊎ ((HasSequence octets → ⊥) × (0 < length octets) × (item ≡ octets) × (others ≡ []))

-- what remains is one item, where it is any octets
abbrev pub last_item : List ℕ → List (List ℕ)
last_item [] = []
last_item (octet ∷ octets) = (octet ∷ octets) ∷ []

-- at most so many SEQUENCE elements, and then what remains
abbrev pub items_within : ℕ → List ℕ → List (List ℕ)
items_within zero octets = last_item octets
items_within (suc turns) octets =
    option_map_or (λ front. enc 0x30 front.0 ∷ items_within turns front.1) (tagged_of 0x30 octets) (last_item octets)

-- the items, as they are read from the front (that these are the items is the law `one_list_of_items`)
unfoldable pub items : List ℕ → List (List ℕ)
items octets = items_within (length octets) octets

-- a stream so far: the items that have ended, all SEQUENCE elements, and what the next one has had, which is less
-- than a whole one
pub record Splits (stream : List ℕ) (ended : List (List ℕ)) (so_far : List ℕ) : Type 0 where
  pub whole : stream ≡ flat_map (λ item. item) ended ++ so_far
  pub each : AllByRecursion IsSequence ended
  pub goes_on : HasSequence so_far → ⊥
