-- An HSS signature, and when it holds (RFC 8554, sections 6.2 and 6.3).
use Rattle.std.specs.Prelude.{◌≡◌, ℕ, ◌+◌, ◌-◌, ◌≤◌, List, [], ◌∷◌, ◌++◌, length}
use Rattle.std.specs.List.{flat_map}
use Rattle.lms_verify.specs.declared.key.LmsKey.{LmsKey}
use Rattle.lms_verify.specs.Digits.{u32str}
use Rattle.lms_verify.specs.Keys.{IsLmsKey, lms_key_text}
use Rattle.lms_verify.specs.Signatures.{LmsHolds}
use Rattle.hss_chain.specs.declared.key.HssKey.{HssKey}

-- A key of a lower level, and the signature of it by the level above (6.2: signed_pub_key).
pub record SignedKey : Type 0 where
  pub signature : List ℕ
  pub key : LmsKey

-- sig[i] || pub[i + 1] (6.2)
abbrev pub signed_key_text : SignedKey → List ℕ
signed_key_text signed = signed.signature ++ lms_key_text signed.key

-- Under the first key: each signed key is one that the key before it signed, and the last of the
-- keys signed the message (6.3).
abbrev pub EachHolds : LmsKey → List SignedKey → List ℕ → List ℕ → Type 0
EachHolds key [] message last = LmsHolds key message last
EachHolds key (signed ∷ others) message last =
    IsLmsKey signed.key × LmsHolds key (lms_key_text signed.key) signed.signature
    × EachHolds signed.key others message last

-- The octets are a signature of the message under the key: u32str(L - 1), then L - 1 signed keys,
-- then one signature, and nothing after it. With the given key in front there are L keys, 1 to 8 (6.2,
-- 6.3).
pub record HssHolds (key : HssKey) (message octets : List ℕ) : Type 0 where
  pub signed : List SignedKey
  pub last : List ℕ
  pub levels : length signed + 1 ≡ key.levels
  pub most : key.levels ≤ 8
  pub text : octets ≡ u32str (key.levels - 1) ++ flat_map signed_key_text signed ++ last
  pub holds : EachHolds key.top signed message last
