-- A signature holds exactly where the value that is computed is the root's.
use Rattle.std.proofs.Common.{◌≡◌, ℕ, ◌+◌, ◌^◌, List, ap, sym, ◌∙◌, subst}
use Rattle.std.specs.Prelude.{◌↔◌}
use Rattle.lms_verify.specs.declared.key.LmsKey.{LmsKey}
use Rattle.lms_verify.specs.Kinds.{height}
use Rattle.lms_verify.specs.OneTime.{message_value, candidate_key}
use Rattle.lms_verify.specs.Tree.{Leads, leaf_value}
use Rattle.lms_verify.specs.Signatures.{LmsHolds, LmsSignature, LeadsToRoot, Spells}

pub holds_is : (key : LmsKey) (message octets : List ℕ) (s : LmsSignature) (r h : ℕ)
    (value one_time leaf root : List ℕ)
    → Spells key.kind key.ots s octets
    → ((other : LmsSignature) → Spells key.kind key.ots other octets → s ≡ other)
    → r ≡ 2 ^ height key.kind + s.q → h ≡ height key.kind
    → value ≡ message_value key.id s.q s.randomizer message
    → one_time ≡ candidate_key key.ots key.id s.q value s.values
    → leaf ≡ leaf_value key.id r one_time
    → (Leads key.id r h s.path leaf key.root ↔ (root ≡ key.root))
    → (root ≡ key.root) ↔ LmsHolds key message octets
holds_is key message octets s r h value one_time leaf root spells one r-is h-is value-is one_time-is leaf-is leads =
    let value-of = message_value key.id s.q s.randomizer message in
    let one_time-of = candidate_key key.ots key.id s.q value-of s.values in
    let r-of = 2 ^ height key.kind + s.q in
    let leaf-of : leaf ≡ leaf_value key.id r-of one_time-of =
    leaf-is ∙ ap (λ (n : ℕ). leaf_value key.id n one_time) r-is
    ∙ ap (leaf_value key.id r-of) (one_time-is
    ∙ ap (λ (v : List ℕ). candidate_key key.ots key.id s.q v s.values) value-is) in
    let P : ℕ → ℕ → List ℕ → Type 0 =
    λ n m start. (Leads key.id n m s.path start key.root ↔ (root ≡ key.root)) in
    let Q : ℕ → Type 0 = λ n. P n h leaf in
    let R : ℕ → Type 0 = λ m. P r-of m leaf in
    let S : List ℕ → Type 0 = λ start. P r-of (height key.kind) start in
    let both : P r-of (height key.kind) (leaf_value key.id r-of one_time-of) =
    subst S leaf-of (subst R h-is (subst Q r-is leads)) in
    let T : LmsSignature → Type 0 = λ other. LeadsToRoot key message other in (
      λ same. record { signature = s; spells = spells; leads = both.1 same },
      λ holds. both.0 (subst T (sym (one holds.signature holds.spells)) holds.leads),
    )
