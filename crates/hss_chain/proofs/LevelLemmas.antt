-- One level of an HSS signature after the other.
use Rattle.std.proofs.Common.{◌≡◌, ℕ, suc, List, [], ◌∷◌, ◌++◌, length, length-append, take, drop, refl, ap, sym, ◌∙◌, subst, append_assoc, arith}
use Rattle.std.specs.Prelude.{◌↔◌}
use Rattle.std.proofs.lemmas.List.{take_at, drop_at, take-append-drop}
use Rattle.std.specs.List.{flat_map}
use Rattle.lms_verify.specs.declared.kind.LmsKind.{LmsKind}
use Rattle.lms_verify.specs.declared.kind.OtsKind.{OtsKind}
use Rattle.lms_verify.specs.declared.key.LmsKey.{LmsKey}
use Rattle.lms_verify.specs.Kinds.{lms_number}
use Rattle.lms_verify.specs.Digits.{u32str}
use Rattle.lms_verify.specs.Keys.{IsLmsKey, lms_key_text}
use Rattle.lms_verify.specs.Signatures.{LmsHolds, LmsSignature, Spells, signature_size}
use Rattle.hss_chain.specs.Chains.{SignedKey, signed_key_text, EachHolds}
use Rattle.hss_chain.specs.Levels.{LevelsHold, Signs}

-- how long a signature is
pub length-Spells : (kind : LmsKind) (ots : OtsKind) (s : LmsSignature) (octets : List ℕ)
    → Spells kind ots s octets → length octets ≡ signature_size kind ots
length-Spells kind ots s octets spells =
    let front = s.randomizer ++ s.values in
    ap length spells.text ∙ omega (
      arith,
      length-append s.randomizer s.values,
      length-append front (u32str (lms_number kind)),
      length-append (front ++ u32str (lms_number kind)) s.path,
      spells.randomizer,
      spells.values,
      spells.path,
    )

-- how long a key's text is
pub length-lms_key_text : (key : LmsKey) → IsLmsKey key → length (lms_key_text key) ≡ 56
length-lms_key_text key valid = omega (arith, length-append key.id key.root, valid.id, valid.root)

-- a key that is signed comes before the levels below it
pub LevelsHold-Signs : (key next : LmsKey) (n : ℕ) (message octets rest : List ℕ) → Signs key next octets rest
    → LevelsHold next n message rest → LevelsHold key (suc n) message octets
LevelsHold-Signs key next n message octets rest signs below = record {
  signed = record { signature = signs.signature; key = next } ∷ below.signed;
  last = below.last;
  count = ap suc below.count;
  text = signs.text ∙ ap (λ (end : List ℕ). signs.signature ++ lms_key_text next ++ end) below.text
      ∙ sym (append_assoc (signs.signature ++ lms_key_text next) (flat_map signed_key_text below.signed) below.last);
  holds = (signs.valid, signs.holds, below.holds);
}

-- the first of the signed keys
pub record Next (key : LmsKey) (n : ℕ) (message octets : List ℕ) : Type 0 where
  pub next : LmsKey
  pub rest : List ℕ
  pub signs : Signs key next octets rest
  pub below : LevelsHold next n message rest

pub Next-LevelsHold : (key : LmsKey) (n : ℕ) (message octets : List ℕ) → LevelsHold key (suc n) message octets
    → Next key n message octets
Next-LevelsHold key n message octets levels = go levels.signed levels.count levels.text levels.holds
  where
    go : (signed : List SignedKey) → length signed ≡ suc n
        → octets ≡ flat_map signed_key_text signed ++ levels.last
        → EachHolds key signed message levels.last → Next key n message octets
    go [] count text holds = absurd (omega arith)
    go (first ∷ others) count text holds = record {
      next = first.key;
      rest = flat_map signed_key_text others ++ levels.last;
      signs = record {
        signature = first.signature;
        text = text ∙ append_assoc (first.signature ++ lms_key_text first.key) (flat_map signed_key_text others) levels.last;
        valid = holds.0;
        holds = holds.1;
      };
      below = record {
        signed = others;
        last = levels.last;
        count = omega arith;
        text = refl;
        holds = holds.2;
      };
    }

-- no key is signed any more
pub LevelsHold-none : (key : LmsKey) (message octets : List ℕ)
    → LevelsHold key 0 message octets ↔ LmsHolds key message octets
LevelsHold-none key message octets = (
  λ levels. go levels levels.signed levels.count levels.text levels.holds,
  λ holds. record { signed = []; last = octets; count = refl; text = refl; holds = holds },
)
  where
    go : (levels : LevelsHold key 0 message octets) (signed : List SignedKey) → length signed ≡ 0
        → octets ≡ flat_map signed_key_text signed ++ levels.last
        → EachHolds key signed message levels.last → LmsHolds key message octets
    go levels [] count text holds =
        let P : List ℕ → Type 0 = λ whole. LmsHolds key message whole in subst P (sym text) holds
    go levels (first ∷ others) count text holds = absurd (omega arith)

-- What is cut from the front, where the next key stands there.
pub record SignedParts (key next : LmsKey) (octets behind signed : List ℕ) : Type 0 where
  pub signature : take (signature_size key.kind key.ots) octets ≡ signed
  pub text : take 56 (drop (signature_size key.kind key.ots) octets) ≡ lms_key_text next
  pub rest : drop 56 (drop (signature_size key.kind key.ots) octets) ≡ behind

pub signed_parts : (key next : LmsKey) (octets rest : List ℕ) (signs : Signs key next octets rest)
    → SignedParts key next octets rest signs.signature
signed_parts key next octets rest signs =
    let size = signature_size key.kind key.ots in
    let signature = signs.signature in
    let text = lms_key_text next in
    let signature-size : length signature ≡ size =
    length-Spells key.kind key.ots signs.holds.signature signature signs.holds.spells in
    let text-size : length text ≡ 56 = length-lms_key_text next signs.valid in
    let whole : octets ≡ signature ++ (text ++ rest) = signs.text ∙ append_assoc signature text rest in
    let behind : drop size octets ≡ text ++ rest =
    ap (drop size) whole ∙ drop_at signature (text ++ rest) size signature-size in
    record {
      signature = ap (take size) whole ∙ take_at signature (text ++ rest) size signature-size;
      text = ap (take 56) behind ∙ take_at text rest 56 text-size;
      rest = ap (drop 56) behind ∙ drop_at text rest 56 text-size;
    }

-- the parts that are cut from the front are the whole
pub cut : (octets : List ℕ) (size : ℕ)
    → octets ≡ take size octets ++ take 56 (drop size octets) ++ drop 56 (drop size octets)
cut octets size =
    sym (append_assoc (take size octets) (take 56 (drop size octets)) (drop 56 (drop size octets))
    ∙ rw (take-append-drop 56 (drop size octets)) (take-append-drop size octets))
