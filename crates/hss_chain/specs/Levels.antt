-- The levels of an HSS signature one by one, for the functions that check them (RFC 8554, section
-- 6.3).
use Rattle.std.specs.Prelude.{◌≡◌, ℕ, List, ◌++◌, length}
use Rattle.std.specs.List.{flat_map}
use Rattle.lms_verify.specs.declared.key.LmsKey.{LmsKey}
use Rattle.lms_verify.specs.Keys.{IsLmsKey, lms_key_text}
use Rattle.lms_verify.specs.Signatures.{LmsHolds}
use Rattle.hss_chain.specs.Chains.{SignedKey, signed_key_text, EachHolds}

-- In front of the octets stands the next key, behind its signature by this one, and then the rest.
pub record Signs (key next : LmsKey) (octets rest : List ℕ) : Type 0 where
  pub signature : List ℕ
  pub text : octets ≡ signature ++ lms_key_text next ++ rest
  pub valid : IsLmsKey next
  pub holds : LmsHolds key (lms_key_text next) signature

-- The octets are n signed keys, the first by this key, and then a signature of the message.
pub record LevelsHold (key : LmsKey) (n : ℕ) (message octets : List ℕ) : Type 0 where
  pub signed : List SignedKey
  pub last : List ℕ
  pub count : length signed ≡ n
  pub text : octets ≡ flat_map signed_key_text signed ++ last
  pub holds : EachHolds key signed message last
