-- The octets of an LMS public key (RFC 8554, section 5.3).
use Rattle.std.specs.Prelude.{◌≡◌, ℕ, List, ◌++◌, length}
use Rattle.lms_verify.specs.declared.key.LmsKey.{LmsKey}
use Rattle.lms_verify.specs.Kinds.{lms_number, ots_number}
use Rattle.lms_verify.specs.Digits.{u32str}

-- u32str(type) || u32str(otstype) || I || T[1] (5.3)
abbrev pub lms_key_text : LmsKey → List ℕ
lms_key_text key =
    u32str (lms_number key.kind) ++ u32str (ots_number key.ots) ++ key.id ++ key.root

-- An LMS public key: I has 16 octets and T[1] has 32 (5.3).
pub record IsLmsKey (key : LmsKey) : Type 0 where
  pub id : length key.id ≡ 16
  pub root : length key.root ≡ 32
