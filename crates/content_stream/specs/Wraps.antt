-- The octets of a content that stand before its image (RFC 4108, section 2.1.5).
use Rattle.std.specs.Prelude.{◌≡◌, ℕ, ◌+◌, ◌<◌, ◌^◌, List, ◌⊎◌, length, take}
use Rattle.der_core.specs.Head.{head_octets}

-- A content of so many octets that begins with this front is one OCTET STRING with n octets of contents
-- (X.690, section 8.7).
pub record IsWrap (content_size : ℕ) (front : List ℕ) (n : ℕ) : Type 0 where
  pub fits : n < 2 ^ 32
  pub whole : content_size ≡ length (head_octets 0x04 n) + n
  pub begins : take (length (head_octets 0x04 n)) front ≡ head_octets 0x04 n

-- so many octets of such a content stand before its image: tag and length of the OCTET STRING that it is, or none
abbrev pub IsWrapSize : ℕ → List ℕ → ℕ → Type 0
IsWrapSize content_size front wrap_size =
    ((n : ℕ) × IsWrap content_size front n × (wrap_size ≡ length (head_octets 0x04 n)))
    ⊎ (((n : ℕ) → IsWrap content_size front n → ⊥) × (wrap_size ≡ 0))
