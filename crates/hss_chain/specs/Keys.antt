-- The octets of an HSS public key (RFC 8554, section 6.1).
use Rattle.std.specs.Prelude.{ℕ, ◌≤◌, List, ◌++◌}
use Rattle.lms_verify.specs.Digits.{u32str}
use Rattle.lms_verify.specs.Keys.{IsLmsKey, lms_key_text}
use Rattle.hss_chain.specs.declared.key.HssKey.{HssKey}

-- u32str(L) || pub[0] (6.1)
abbrev pub hss_key_text : HssKey → List ℕ
hss_key_text key = u32str key.levels ++ lms_key_text key.top

-- An HSS public key: the count L of levels is from 1 to 8 (6).
pub record IsHssKey (key : HssKey) : Type 0 where
  pub least : 1 ≤ key.levels
  pub most : key.levels ≤ 8
  pub top : IsLmsKey key.top
