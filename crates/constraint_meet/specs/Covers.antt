-- Which value of an attribute a listed one covers (RFC 6010, section 3). The standard compares octet for octet. That a
-- listed package identifier stands for later versions too, and listed hardware for any part of it, is this project's own.
use Rattle.std.specs.Prelude.{◌≡◌, ◌⊎◌, ℕ, Bool, ◌&&◌, ◌||◌, List, bytes_eq}
use Rattle.package_attrs.specs.AttributeTypes.{firmware_package_id, target_hardware_ids}
use Rattle.package_attrs.specs.Covers.{IdentifierCovers, TargetsCover, identifier_covers, targets_cover}

-- a listed value covers a value of an attribute of this type; both are whole elements
abbrev pub Covers : List ℕ → List ℕ → List ℕ → Type 0
Covers kind listed value =
    (listed ≡ value)
    ⊎ (((kind ≡ firmware_package_id) × IdentifierCovers listed value)
    ⊎ ((kind ≡ target_hardware_ids) × TargetsCover listed value))

-- ---- the test that tells it

-- a listed value covers more than itself, at two types
abbrev pub covers_more : List ℕ → List ℕ → List ℕ → Bool
covers_more kind listed value =
    (bytes_eq kind firmware_package_id && identifier_covers listed value)
    || (bytes_eq kind target_hardware_ids && targets_cover listed value)

abbrev pub covers : List ℕ → List ℕ → List ℕ → Bool
covers kind listed value = bytes_eq listed value || covers_more kind listed value
