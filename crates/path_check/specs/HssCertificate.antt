-- HSS in certificates: the algorithm, the key and the signature (RFC 9708; RFC 8554, section 6; RFC 5280, section 4.1).
use Rattle.std.specs.Prelude.{◌≡◌, ◌⊎◌, ℕ, List, ◌∷◌}
use Rattle.cert_fields.specs.Algorithms.{signature_algorithm}
use Rattle.cert_fields.specs.Anchor.{TrustAnchor}
use Rattle.cert_fields.specs.Certificate.{BitString, Certificate, signed_text}
use Rattle.hss_chain.specs.Chains.{HssHolds}
use Rattle.hss_chain.specs.Keys.{IsHssKey, hss_key_text}
use Rattle.hss_chain.specs.declared.key.HssKey.{HssKey}

-- the header of an OCTET STRING of 60 octets
abbrev pub wrapped : List ℕ → List ℕ
wrapped octets = 0x04 ∷ 0x3C ∷ octets

-- The key of a certificate is this HSS key: its bits are the 60 octets of the key, as they are (RFC 9708, section 4) or in
-- an OCTET STRING.
pub record IsKeyOf (c : Certificate) (key : HssKey) : Type 0 where
  pub algorithm : c.signed.key_algorithm ≡ signature_algorithm
  pub unused : c.signed.key.0 ≡ 0
  pub valid : IsHssKey key
  pub text : (c.signed.key.1 ≡ hss_key_text key) ⊎ (c.signed.key.1 ≡ wrapped (hss_key_text key))

-- and that of an anchor
pub record IsAnchorKey (anchor : TrustAnchor) (key : HssKey) : Type 0 where
  pub valid : IsHssKey key
  pub text : anchor.key ≡ hss_key_text key

-- These octets are signed by this key: both fields that name the algorithm name HSS, without parameters, and the bits are
-- all of a signature over the octets (RFC 9708; 4.1.1.3, and 5.1.1.3 of revocation lists).
pub record IsSignedOver (key : HssKey) (signed_field outer_field : List ℕ) (signature : BitString) (octets : List ℕ)
    : Type 0 where
  pub inner : signed_field ≡ signature_algorithm
  pub outer : outer_field ≡ signature_algorithm
  pub unused : signature.0 ≡ 0
  pub holds : HssHolds key octets signature.1

-- The certificate is signed by this key: the signature is one over the signed part (4.1.1.3).
abbrev pub IsSignedBy : HssKey → Certificate → Type 0
IsSignedBy key c = IsSignedOver key c.signed.algorithm c.algorithm c.signature (signed_text c.signed)
