-- `sigcheck`: whether a signature of a message holds under an HSS key (RFC 8554, section 6). The input's form is this
-- project's own.
use Rattle.std.specs.Prelude.{◌≡◌, ◌<◌, ℕ, ◌^◌, List, ◌++◌, length, codes}
use Rattle.der_core.specs.Element.{enc}
use Rattle.hss_chain.specs.declared.key.HssKey.{HssKey}
use Rattle.hss_chain.specs.Keys.{IsHssKey, hss_key_text}
use Rattle.hss_chain.specs.Chains.{HssHolds}
use Rattle.fwload_top.specs.declared.status.Status.TheVariants.{Done, SomeRefused, Refused}
use Rattle.fwload_top.specs.Meaning.{Meaning, Answer, says, any, any_board}
use Rattle.fwload_top.specs.Meaning.Input.{read}
use Rattle.fwload_top.specs.Ident.{refused_input}

-- ---- the input

-- What is checked: a key, a message and a signature, each as its octets.
pub record Triple : Type 0 where
  pub key : List ℕ
  pub message : List ℕ
  pub signature : List ℕ

-- the three OCTET STRINGs one after the other
abbrev pub triple_contents : Triple → List ℕ
triple_contents t = enc 0x04 t.key ++ (enc 0x04 t.message ++ enc 0x04 t.signature)

-- SEQUENCE { key OCTET STRING, message OCTET STRING, signature OCTET STRING }
abbrev pub triple_text : Triple → List ℕ
triple_text t = enc 0x30 (triple_contents t)

-- the contents of an element have fewer than 2^32 octets
abbrev pub IsTriple : Triple → Type 0
IsTriple t = length (triple_contents t) < 2 ^ 32

-- The input is the text of a triple whose key reads.
pub record Keyed (input : List ℕ) (t : Triple) (key : HssKey) : Type 0 where
  pub valid : IsTriple t
  pub text : input ≡ triple_text t
  pub key_valid : IsHssKey key
  pub key_text : t.key ≡ hss_key_text key

-- the input is no triple's text
abbrev pub IsNoTriple : List ℕ → Type 0
IsNoTriple input = (t : Triple) → IsTriple t → input ≡ triple_text t → ⊥

-- the input is a triple's text, and its key is no HSS key
abbrev pub HasNoKey : List ℕ → Type 0
HasNoKey input =
    (t : Triple) × IsTriple t × (input ≡ triple_text t)
    × ((key : HssKey) → IsHssKey key → t.key ≡ hss_key_text key → ⊥)

-- the input is a triple's text, its key reads, and the signature of the message holds under it
abbrev pub IsGood : List ℕ → Type 0
IsGood input = (t : Triple) × (key : HssKey) × Keyed input t key × HssHolds key t.message t.signature

-- the same, but the signature doesn't hold
abbrev pub IsBad : List ℕ → Type 0
IsBad input = (t : Triple) × (key : HssKey) × Keyed input t key × ¬ HssHolds key t.message t.signature

-- ---- the answers

pub data Outcome : Type 0 where
  no_triple : Outcome
  no_key : Outcome
  good : Outcome
  bad : Outcome

abbrev pub answer : Outcome → Answer
answer no_triple = says Refused refused_input any (read IsNoTriple)
answer no_key = says Refused (codes "refused key\n") any (read HasNoKey)
answer good = says Done (codes "good\n") any (read IsGood)
answer bad = says SomeRefused (codes "bad\n") any (read IsBad)

abbrev pub sigcheck : Meaning
sigcheck = record {
  Outcome = Outcome;
  answer = answer;
  needs = any_board;
  form = λ old input. (t : Triple) × (key : HssKey) × Keyed input t key;
}
