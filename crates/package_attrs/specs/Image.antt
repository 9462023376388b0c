-- The image in a firmware package's content (RFC 4108, section 2.1.5).
use Rattle.std.specs.Prelude.{◌≡◌, ℕ, ◌+◌, ◌/◌, List, ◌⊎◌}
use Rattle.der_core.specs.Element.{enc, IsElement}

-- the octets are one OCTET STRING with these contents (X.690, section 8.7)
abbrev pub IsOctetString : List ℕ → List ℕ → Type 0
IsOctetString octets contents = IsElement 0x04 contents × (octets ≡ enc 0x04 contents)

-- the image is the contents, where the content is one OCTET STRING, and else the content as it is
abbrev pub IsImage : List ℕ → List ℕ → Type 0
IsImage content image =
    IsOctetString content image
    ⊎ (((contents : List ℕ) → IsOctetString content contents → ⊥) × (image ≡ content))

-- how many blocks of 4,096 octets an image of n octets takes; this size of blocks is this project's own
abbrev pub blocks_for : ℕ → ℕ
blocks_for n = (n + 4095) / 4096
