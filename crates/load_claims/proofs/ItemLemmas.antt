-- One item: its answer, and what stands there after it.
use Rattle.std.proofs.Common.{◌≡◌, ◌≢◌, ◌⊎◌, inl, inr, ⊎_elim, Bool, true, false, if◌then◌else◌, IsTrue, ℕ, ◌<◌, ◌≤◌, List, ◌++◌, length, get_or, take, refl, sym, ◌∙◌, ap, arith, length-append}
use Rattle.std.specs.Prelude.{nat_le, nat_lt, ◌&&◌, drop}
use Rattle.std.proofs.lemmas.Bool.{false≢true}
use Rattle.std.proofs.lemmas.Bool.Decides.{nat_tests}
use Rattle.std.proofs.lemmas.List.{take-append-drop}
use Rattle.std.proofs.Math.Seq.{take-append_seam}
use Rattle.der_core.specs.Element.{enc}
use Rattle.edge_board.specs.Sends.{IsFront}
use Rattle.key_state.specs.Row.{spent_in, use_in}
use Rattle.key_state.proofs.Rows.{length-use_in, use_at, use_other}
use Rattle.module_record.specs.declared.module.Module.{Module}
use Rattle.bank_layout.specs.Recovery.{Standing}
use Rattle.judge_core.specs.Verdicts.{Verdict, accepts, refuses}
use Rattle.answer_write.specs.Answers.{plain_answer, signed_answer}
use Rattle.load_claims.specs.Items.{answer, answer_type, answer_text, after, uses_leaf, is_signed}
use Rattle.load_claims.specs.Kept.{SameStore}
use Rattle.load_claims.proofs.Rows.{use_le, use_lt}

-- ---- fronts

pub front_rest : (all s : List ℕ) → IsFront all s → (rest : List ℕ) × (s ++ rest ≡ all)
front_rest all s front = (
  drop front.0 all,
  ap (λ (l : List ℕ). l ++ drop front.0 all) front.2 ∙ take-append-drop front.0 all,
)

pub front_of : (all s rest : List ℕ) → s ++ rest ≡ all → IsFront all s
front_of all s rest is = (
  length s,
  omega (arith, ap length is, length-append s rest),
  sym (take-append_seam s rest) ∙ ap (λ (l : List ℕ). take (length s) l) is,
)

-- ---- answers

element_some : (tag : ℕ) (contents : List ℕ) → 0 < length (enc tag contents)
unfolding enc
element_some tag contents = omega arith

plain_some : (kind text : List ℕ) → 0 < length (plain_answer kind text)
unfolding plain_answer
plain_some kind text = element_some 0x30 _

signed_some : (m : Module) (leaf : ℕ) (kind text : List ℕ) → 0 < length (signed_answer m leaf kind text)
unfolding signed_answer
signed_some m leaf kind text = element_some 0x30 _

-- no answer is empty
pub answer_some : (m : Module) (now : Standing) (verdict : Verdict) → 0 < length (answer m now verdict)
answer_some m now verdict = elim (is_signed now verdict) as (λ b. 0 < length (if b then signed_answer m (spent_in now.row) (answer_type verdict) (answer_text m now verdict) else plain_answer (answer_type verdict) (answer_text m now verdict)))
    [ true ↦ signed_some m (spent_in now.row) (answer_type verdict) (answer_text m now verdict) | false ↦ plain_some (answer_type verdict) (answer_text m now verdict) ]

-- ---- what stands after an item, part by part

pub standing_is : (now other : Standing) → SameStore now other → now.row ≡ other.row → now ≡ other
standing_is now other same row = λ i. record { sequence = same.sequence i; state = same.state i; row = row i }

pub same_store : (now other : Standing) → now ≡ other → SameStore now other
same_store now other is = record { sequence = ap (λ (n : Standing). n.sequence) is; state = ap (λ (n : Standing). n.state) is }

-- the row where a leaf is used, and where none is
pub after_used : (start : Standing) (verdict : Verdict) → IsTrue (uses_leaf verdict) → (after start verdict).row ≡ use_in start.row
after_used start (accepts described content image key_id) uses = refl
after_used start (refuses number name) uses = ap (λ (b : Bool). if b then use_in start.row else start.row) uses

pub after_unused : (start : Standing) (verdict : Verdict) → uses_leaf verdict ≡ false → after start verdict ≡ start
after_unused start (accepts described content image key_id) none = absurd (false≢true (sym none))
after_unused start (refuses number name) none = standing_is (after start (refuses number name)) start (record { sequence = refl; state = refl }) (ap (λ (b : Bool). if b then use_in start.row else start.row) none)

is_lt : (m n : ℕ) → m < n → nat_lt m n ≡ true
is_lt m n lt = grind (arith, nat_tests)

not_lt : (m n : ℕ) → n ≤ m → nat_lt m n ≡ false
not_lt m n le = grind (arith, nat_tests)

lt_true : (m n : ℕ) → IsTrue (nat_lt m n) → m < n
lt_true m n h = grind (arith, nat_tests)

and_false : (b : Bool) → (b && false) ≡ false
and_false true = refl
and_false false = refl

and_true : (a b : Bool) → IsTrue (a && b) → IsTrue a × IsTrue b
and_true true true h = (refl, refl)
and_true true false h = absurd (false≢true h)
and_true false b h = absurd (false≢true h)

-- the answer where a leaf is there, and where none is or none is used
pub answer_signed : (m : Module) (start : Standing) (verdict : Verdict) → IsTrue (uses_leaf verdict) → spent_in start.row < length start.row
    → answer m start verdict ≡ signed_answer m (spent_in start.row) (answer_type verdict) (answer_text m start verdict)
answer_signed m start verdict uses lt =
    let signed : is_signed start verdict ≡ true = ap (λ (b : Bool). b && nat_lt (spent_in start.row) (length start.row)) uses ∙ is_lt (spent_in start.row) (length start.row) lt in
    ap (λ (b : Bool). if b then signed_answer m (spent_in start.row) (answer_type verdict) (answer_text m start verdict) else plain_answer (answer_type verdict) (answer_text m start verdict)) signed

pub answer_plain : (m : Module) (start : Standing) (verdict : Verdict) → (uses_leaf verdict ≡ false) ⊎ (length start.row ≤ spent_in start.row)
    → answer m start verdict ≡ plain_answer (answer_type verdict) (answer_text m start verdict)
answer_plain m start verdict none =
    ap (λ (b : Bool). if b then signed_answer m (spent_in start.row) (answer_type verdict) (answer_text m start verdict) else plain_answer (answer_type verdict) (answer_text m start verdict)) (⊎_elim
    (λ unused. ap (λ (b : Bool). b && nat_lt (spent_in start.row) (length start.row)) unused)
    (λ full. ap (λ (b : Bool). uses_leaf verdict && b) (not_lt (spent_in start.row) (length start.row) full) ∙ and_false (uses_leaf verdict))
    none)

-- a signed answer uses a leaf that is there
pub signed_parts : (start : Standing) (verdict : Verdict) → IsTrue (is_signed start verdict) → IsTrue (uses_leaf verdict) × (spent_in start.row < length start.row)
signed_parts start verdict signed =
    let both : IsTrue (uses_leaf verdict) × IsTrue (nat_lt (spent_in start.row) (length start.row)) = and_true (uses_leaf verdict) (nat_lt (spent_in start.row) (length start.row)) signed in
    (both.0, lt_true (spent_in start.row) (length start.row) both.1)

-- and the row holds 00 there afterwards
pub signed_blank : (start : Standing) (verdict : Verdict) → IsTrue (is_signed start verdict) → get_or (after start verdict).row (spent_in start.row) 0 ≡ 0
signed_blank start verdict signed =
    let parts : IsTrue (uses_leaf verdict) × (spent_in start.row < length start.row) = signed_parts start verdict signed in
    ap (λ (l : List ℕ). get_or l (spent_in start.row) 0) (after_used start verdict parts.0) ∙ use_at start.row parts.1

signed_grows-row : (b : Bool) (row : List ℕ) → spent_in row ≤ spent_in (if b then use_in row else row)
signed_grows-row true row = use_le row
signed_grows-row false row = omega arith

pub after_grows : (now : Standing) (verdict : Verdict) → spent_in now.row ≤ spent_in (after now verdict).row
after_grows now (accepts described content image key_id) = use_le now.row
after_grows now (refuses number name) = signed_grows-row (nat_le 30 number) now.row

pub signed_grows : (now : Standing) (verdict : Verdict) → IsTrue (is_signed now verdict) → spent_in now.row < spent_in (after now verdict).row
signed_grows now verdict signed =
    let parts : IsTrue (uses_leaf verdict) × (spent_in now.row < length now.row) = signed_parts now verdict signed in
    omega (arith, use_lt now.row parts.1, ap spent_in (after_used now verdict parts.0))

after_row : (b : Bool) (row : List ℕ) → (length (if b then use_in row else row) ≡ length row) × ((i : ℕ) → i ≢ spent_in row → get_or (if b then use_in row else row) i 0 ≡ get_or row i 0)
after_row true row = (length-use_in row, use_other row)
after_row false row = (refl, λ i ne. refl)

row_cause : (b : Bool) (row : List ℕ) → ((if b then use_in row else row) ≡ row) ⊎ IsTrue b
row_cause true row = inr refl
row_cause false row = inl refl

pub record RowAfter (start : Standing) (verdict : Verdict) : Type 0 where
  pub size : length (after start verdict).row ≡ length start.row
  pub others : (i : ℕ) → i ≢ spent_in start.row → get_or (after start verdict).row i 0 ≡ get_or start.row i 0
  pub cause : ((after start verdict).row ≡ start.row) ⊎ IsTrue (uses_leaf verdict)

pub row_after : (start : Standing) (verdict : Verdict) → RowAfter start verdict
row_after start (accepts described content image key_id) = record { size = length-use_in start.row; others = use_other start.row; cause = inr refl }
row_after start (refuses number name) = record {
  size = (after_row (nat_le 30 number) start.row).0;
  others = (after_row (nat_le 30 number) start.row).1;
  cause = row_cause (nat_le 30 number) start.row;
}
