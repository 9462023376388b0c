-- What a signing key is, how many leaves it has, how long its signatures are, and what names a public
-- key: HSS with one level (RFC 8554, sections 5.3 and 6).
use Rattle.std.specs.Prelude.{◌≡◌, ℕ, ◌+◌, ◌^◌, ◌≤◌, List, length, take}
use Rattle.sha2.specs.Sha256.{sha256}
use Rattle.lms_verify.specs.Kinds.{height}
use Rattle.lms_verify.specs.Signatures.{signature_size}
use Rattle.hss_chain.specs.declared.key.HssKey.{HssKey}
use Rattle.hss_chain.specs.Keys.{hss_key_text}
use Rattle.lms_sign.specs.declared.key.SignKey.{SignKey}

-- the count of leaves, 2 ^ h (RFC 8554, section 5.1)
abbrev pub leaf_count : SignKey → ℕ
leaf_count key = 2 ^ height key.kind

-- how many octets a signature has: u32str(0), and the LMS signature (RFC 8554, section 6.2)
abbrev pub hss_signature_size : SignKey → ℕ
hss_signature_size key = 4 + signature_size key.kind key.ots

-- what names a public key: the first 20 octets of the SHA-256 of its text; this project's own
abbrev pub key_id : HssKey → List ℕ
key_id key = take 20 (sha256 (hss_key_text key))

-- A signing key: SEED has 32 octets and I has 16 (RFC 8554, section 5.3 and Appendix A), and the tree
-- has 32 or 1,024 leaves.
pub record IsSignKey (key : SignKey) : Type 0 where
  pub seed : length key.seed ≡ 32
  pub id : length key.id ≡ 16
  pub low : height key.kind ≤ 10
