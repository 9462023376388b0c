-- Algorithms and their identifiers (RFC 5280, section 4.1.1.2).
--
--   AlgorithmIdentifier ::= SEQUENCE {
--     algorithm OBJECT IDENTIFIER,
--     parameters ANY DEFINED BY algorithm OPTIONAL }
use Rattle.std.specs.Prelude.{ℕ, List, [], ◌∷◌, ◌++◌, Option, Some, None, Bool, if◌then◌else◌}
use Rattle.der_core.specs.Element.{enc}
use Rattle.der_core.specs.Shapes.{text_if}

-- the algorithm by the contents of its identifier, and the parameters as one element
abbrev pub algorithm_text : List ℕ → Option (List ℕ) → List ℕ
algorithm_text algorithm parameters = enc 0x30 (enc 0x06 algorithm ++ text_if (λ p. p) parameters)

-- 2.16.840.1.101.3.4.2.1, id-sha256 (RFC 5754, section 2.2)
abbrev pub sha_256 : List ℕ
sha_256 = 0x60 ∷ 0x86 ∷ 0x48 ∷ 0x01 ∷ 0x65 ∷ 0x03 ∷ 0x04 ∷ 0x02 ∷ 0x01 ∷ []

-- 1.2.840.113549.1.9.16.3.17, id-alg-hss-lms-hashsig (RFC 9708, section 3)
abbrev pub hss_lms : List ℕ
hss_lms = 0x2A ∷ 0x86 ∷ 0x48 ∷ 0x86 ∷ 0xF7 ∷ 0x0D ∷ 0x01 ∷ 0x09 ∷ 0x10 ∷ 0x03 ∷ 0x11 ∷ []

-- SHA-256 with the parameters NULL, or without any (RFC 5754, section 2)
abbrev pub digest_algorithm : Bool → List ℕ
digest_algorithm has_null = algorithm_text sha_256 (if has_null then Some (enc 0x05 []) else None)

-- HSS/LMS, which has no parameters
abbrev pub signature_algorithm : List ℕ
signature_algorithm = algorithm_text hss_lms None
