-- The types of the extensions that are known, each the contents of its OBJECT IDENTIFIER.
use Rattle.std.specs.Prelude.{ℕ, Bool, List, [], ◌∷◌, bytes_eq}
use Rattle.std.specs.List.{list_any}

-- id-ce-subjectKeyIdentifier, 2.5.29.14 (RFC 5280, section 4.2.1.2)
abbrev pub subject_key_identifier : List ℕ
subject_key_identifier = 0x55 ∷ 0x1D ∷ 0x0E ∷ []

-- id-ce-keyUsage, 2.5.29.15 (RFC 5280, section 4.2.1.3)
abbrev pub key_usage : List ℕ
key_usage = 0x55 ∷ 0x1D ∷ 0x0F ∷ []

-- id-ce-subjectAltName, 2.5.29.17 (RFC 5280, section 4.2.1.6)
abbrev pub subject_alt_name : List ℕ
subject_alt_name = 0x55 ∷ 0x1D ∷ 0x11 ∷ []

-- id-ce-basicConstraints, 2.5.29.19 (RFC 5280, section 4.2.1.9)
abbrev pub basic_constraints : List ℕ
basic_constraints = 0x55 ∷ 0x1D ∷ 0x13 ∷ []

-- id-ce-authorityKeyIdentifier, 2.5.29.35 (RFC 5280, section 4.2.1.1)
abbrev pub authority_key_identifier : List ℕ
authority_key_identifier = 0x55 ∷ 0x1D ∷ 0x23 ∷ []

-- id-ce-extKeyUsage, 2.5.29.37 (RFC 5280, section 4.2.1.12)
abbrev pub ext_key_usage : List ℕ
ext_key_usage = 0x55 ∷ 0x1D ∷ 0x25 ∷ []

-- id-pe-cmsContentConstraints, 1.3.6.1.5.5.7.1.18 (RFC 6010, section 3)
abbrev pub content_constraints : List ℕ
content_constraints = 0x2B ∷ 0x06 ∷ 0x01 ∷ 0x05 ∷ 0x05 ∷ 0x07 ∷ 0x01 ∷ 0x12 ∷ []

-- the types that are known: those that are read, and subjectAltName and extKeyUsage, which are passed over
abbrev pub known_types : List (List ℕ)
known_types =
    subject_key_identifier ∷ key_usage ∷ subject_alt_name ∷ basic_constraints ∷ authority_key_identifier
    ∷ ext_key_usage ∷ content_constraints ∷ []

abbrev pub is_known : List ℕ → Bool
is_known kind = list_any (bytes_eq kind) known_types
