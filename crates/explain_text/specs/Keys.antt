-- How it is told which value a listed one covers beside itself: package identifiers with their versions, and hardware types
-- with the place of the value that lists them, in order. Nothing here has to be believed: no public clause names it.
use Rattle.std.specs.Prelude.{◌≡◌, ◌↔◌, ℕ, Bool, suc, true, List, [], ◌∷◌, ◌++◌, ◌&&◌, Option, Some, None, Contains, map, bytes_eq, nat_eq}
use Rattle.std.specs.Prelude.{IsPermutation}
use Rattle.std.specs.List.{flat_map, list_any}
use Rattle.std.specs.List.Sorted.{IsSortedBy}
use Rattle.std.specs.Option.{unwrap_or}
use Rattle.std.specs.Ordering.{is_le, is_lt}
use Rattle.package_attrs.specs.AttributeTypes.{firmware_package_id, target_hardware_ids}
use Rattle.package_attrs.specs.Covers.{are_among, is_late, preferred_of}
use Rattle.package_attrs.specs.ListReading.{targets_of}
use Rattle.constraint_meet.specs.Places.{Key, key_cmp}

-- an identifier and a number: the identifiers don't descend, nor do the numbers of one
abbrev pub AscendByNumber : List Key → Type 0
AscendByNumber keys = IsSortedBy (λ x y. is_lt (key_cmp x y)) keys

-- a key doesn't come after another
abbrev pub IsUpTo : Key → Key → Type 0
IsUpTo key last = is_le (key_cmp key last) ≡ true

-- the key of this identifier and number is among these
abbrev pub is_key : List Key → List ℕ → ℕ → Bool
is_key keys id number = list_any (λ key. bytes_eq key.0 id && nat_eq key.1 number) keys

-- those of this identifier
abbrev pub AreOf : List Key → List ℕ → List Key → Type 0
AreOf keys id group = (key : Key) → Contains group key ↔ (Contains keys key × (key.0 ≡ id))

-- ---- package identifiers

abbrev pub key_list : Option Key → List Key
key_list None = []
key_list (Some key) = key ∷ []

-- the preferred names that values are, each with its version
abbrev pub versions_in : List (List ℕ) → List Key
versions_in values = flat_map (λ value. key_list (preferred_of value)) values

-- one of the values is this name in this version or an earlier one
abbrev pub is_late_name : List (List ℕ) → List ℕ → Bool
is_late_name values value = list_any (λ one. is_late (preferred_of one) (preferred_of value)) values

-- they are kept for identifiers
abbrev pub KeepsVersions : List ℕ → List (List ℕ) → List Key → Type 0
KeepsVersions kind values keys = kind ≡ firmware_package_id → IsPermutation (versions_in values) keys

-- ---- hardware types

-- the hardware types that a value lists
abbrev pub types_in : List ℕ → List (List ℕ)
types_in value = unwrap_or (targets_of value) []

-- each with the place of its value
abbrev pub types_from : ℕ → List (List ℕ) → List Key
types_from place [] = []
types_from place (value ∷ more) = map (λ id. (id, place)) (types_in value) ++ types_from (suc place) more

-- one of the values lists all hardware types of this one
abbrev pub are_listed : List (List ℕ) → List ℕ → Bool
are_listed values value = list_any (λ one. are_among (targets_of one) (targets_of value)) values

-- they are kept for hardware types
abbrev pub KeepsTypes : List ℕ → List (List ℕ) → List Key → Type 0
KeepsTypes kind values keys = kind ≡ target_hardware_ids → IsPermutation (types_from 0 values) keys
