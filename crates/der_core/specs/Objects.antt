-- The contents of an OBJECT IDENTIFIER, and its dotted text (X.690, section 8.19).
use Rattle.std.specs.Prelude.{◌≡◌, ℕ, ◌+◌, ◌-◌, ◌/◌, ◌%◌, ◌<◌, ◌≤◌, ◌^◌, List, [], ◌∷◌, ◌++◌, map, length}
use Rattle.std.specs.Prelude.{nat_lt, if◌then◌else◌}
use Rattle.std.specs.Int.Digits.{digits_of}
use Rattle.std.specs.Fmt.{decimal}
use Rattle.std.specs.List.{flat_map, AllByRecursion}

-- a subidentifier's base 128 digits, high first, 128 added to all but the last (8.19.2)
unfoldable pub subidentifier : ℕ → List ℕ
subidentifier s = map (λ d. 128 + d) (digits_of 128 (s / 128)) ++ (s % 128) ∷ []

-- the contents with these subidentifiers, one after the other (8.19.2)
abbrev pub oid_contents : List ℕ → List ℕ
oid_contents ss = flat_map subidentifier ss

-- subidentifiers below 2^128
abbrev pub AreSmall : List ℕ → Type 0
AreSmall ss = AllByRecursion (λ s. s < 2 ^ 128) ss

-- octets that spell an identifier: subidentifiers below 2^128, in 1 to 64 octets
pub record IsOid (octets : List ℕ) : Type 0 where
  pub some : 0 < length octets
  pub most : length octets ≤ 64
  pub spelled : (ss : List ℕ) × AreSmall ss × (octets ≡ oid_contents ss)

-- the first two components a and b, of which the first subidentifier is 40a + b, where a is at most 2,
-- and b below 40 where a is below 2 (8.19.4)
abbrev pub dotted_first : ℕ → List ℕ
dotted_first s =
    if nat_lt s 40 then 48 ∷ 46 ∷ decimal s
    else (if nat_lt s 80 then 49 ∷ 46 ∷ decimal (s - 40) else 50 ∷ 46 ∷ decimal (s - 80))

-- the components in decimal, with a dot between any two
abbrev pub dotted : List ℕ → List ℕ
dotted [] = []
dotted (s ∷ ss) = dotted_first s ++ flat_map (λ s. 46 ∷ decimal s) ss
