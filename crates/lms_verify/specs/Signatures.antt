-- An LMS signature, and when it holds (RFC 8554, sections 5.4 and 5.4.2).
use Rattle.std.specs.Prelude.{◌≡◌, ℕ, ◌+◌, ◌*◌, ◌^◌, ◌<◌, List, ◌++◌, length}
use Rattle.lms_verify.specs.declared.kind.LmsKind.{LmsKind}
use Rattle.lms_verify.specs.declared.kind.OtsKind.{OtsKind}
use Rattle.lms_verify.specs.declared.key.LmsKey.{LmsKey}
use Rattle.lms_verify.specs.Kinds.{lms_number, height, ots_number, chain_count}
use Rattle.lms_verify.specs.Digits.{u32str}
use Rattle.lms_verify.specs.OneTime.{message_value, candidate_key}
use Rattle.lms_verify.specs.Tree.{leaf_value, Leads}

-- What a signature says: the number q of the leaf, the randomizer C, the values y[0] to y[p - 1]
-- and the path's values path[0] to path[h - 1], both one after the other (5.4).
pub record LmsSignature : Type 0 where
  pub q : ℕ
  pub randomizer : List ℕ
  pub values : List ℕ
  pub path : List ℕ

-- u32str(q) || u32str(otstype) || C || y[0] || .. || y[p-1] || u32str(type) || path[0] || ..
-- || path[h-1] (4.5 and 5.4)
abbrev pub signature_text : LmsKind → OtsKind → LmsSignature → List ℕ
signature_text kind ots s =
    u32str s.q ++ u32str (ots_number ots) ++ s.randomizer ++ s.values ++ u32str (lms_number kind)
    ++ s.path

-- Octets are the text of a signature under these kinds: q is below 2 ^ h, C is a value, there are
-- p values y, and h values of the path (4.5 and 5.4).
pub record Spells (kind : LmsKind) (ots : OtsKind) (s : LmsSignature) (octets : List ℕ) : Type 0 where
  pub text : octets ≡ signature_text kind ots s
  pub leaf : s.q < 2 ^ height kind
  pub randomizer : length s.randomizer ≡ 32
  pub values : length s.values ≡ 32 * chain_count ots
  pub path : length s.path ≡ 32 * height kind

-- how many octets a signature has (5.4)
abbrev pub signature_size : LmsKind → OtsKind → ℕ
signature_size kind ots = 12 + 32 * (1 + chain_count ots + height kind)

-- For the message, the one-time key to which the signature leads is that of leaf q, node number
-- 2 ^ h + q, from which the signature's path leads to the key's root (5.4.2).
abbrev pub LeadsToRoot : LmsKey → List ℕ → LmsSignature → Type 0
LeadsToRoot key message s =
    let value = message_value key.id s.q s.randomizer message in
    let one_time = candidate_key key.ots key.id s.q value s.values in
    let r = 2 ^ height key.kind + s.q in
    Leads key.id r (height key.kind) s.path (leaf_value key.id r one_time) key.root

-- The octets are a signature of the message under the key (5.4.2).
pub record LmsHolds (key : LmsKey) (message octets : List ℕ) : Type 0 where
  pub signature : LmsSignature
  pub spells : Spells key.kind key.ots signature octets
  pub leads : LeadsToRoot key message signature
