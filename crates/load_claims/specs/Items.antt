-- What a module makes of items, one after the other: verdicts, answers, and what stands on its board afterwards.
use Rattle.std.specs.Prelude.{ℕ, ◌+◌, List, [], ◌∷◌, ◌++◌, length, Bool, true, false, ◌&&◌, nat_le, nat_lt, if◌then◌else◌}
use Rattle.key_state.specs.Row.{spent_in, use_in}
use Rattle.config_table.specs.State.{Offer, offer_of, state_with, after_package}
use Rattle.module_record.specs.declared.module.Module.{Module}
use Rattle.bank_layout.specs.Recovery.{Standing}
use Rattle.judge_core.specs.Verdicts.{Bench, Verdict, accepts, refuses, Judges}
use Rattle.receipt_writer.specs.Answers.{receipt_text, error_text}
use Rattle.answer_write.specs.Answers.{load_receipt, load_error, plain_answer, signed_answer}

-- ---- one item

-- the bench of a module at a moment, over what stands on its board: the judge sees the images' lengths alone
abbrev pub bench_at : Module → ℕ → Standing → Bench
bench_at m at now = record {
  holder = m;
  at = at;
  sequence = now.sequence;
  state = state_with (λ (octets : List ℕ). length octets) now.state;
}

-- this is the verdict on the item
unfoldable pub JudgesAt : Module → ℕ → Standing → List ℕ → Verdict → Type 0
JudgesAt m at now item verdict = Judges (bench_at m at now) item verdict

-- a leaf is used for an item that is accepted, and for one that fails a condition from 30 on: so a stranger can't use
-- up the key
abbrev pub uses_leaf : Verdict → Bool
uses_leaf (accepts described content image key_id) = true
uses_leaf (refuses number name) = nat_le 30 number

-- the answer is signed where a leaf is used for it, and one is unspent
abbrev pub is_signed : Standing → Verdict → Bool
is_signed now verdict = uses_leaf verdict && nat_lt (spent_in now.row) (length now.row)

-- the type of the answer, and its text, over what stood there before the item
abbrev pub answer_type : Verdict → List ℕ
answer_type (accepts described content image key_id) = load_receipt
answer_type (refuses number name) = load_error

abbrev pub answer_text : Module → Standing → Verdict → List ℕ
answer_text m now (accepts described content image key_id) = receipt_text m described.identifier.name key_id
answer_text m now (refuses number name) = error_text m now.state number name

-- its octets
abbrev pub answer : Module → Standing → Verdict → List ℕ
answer m now verdict =
    if is_signed now verdict then signed_answer m (spent_in now.row) (answer_type verdict) (answer_text m now verdict)
    else plain_answer (answer_type verdict) (answer_text m now verdict)

-- what stands there after the item
abbrev pub after : Standing → Verdict → Standing
after now (accepts described content image key_id) = record {
  sequence = now.sequence + 1;
  state = after_package (offer_of described) image now.state;
  row = use_in now.row;
}
after now (refuses number name) = record {
  sequence = now.sequence;
  state = now.state;
  row = if uses_leaf (refuses number name) then use_in now.row else now.row;
}

-- ---- items one after the other

-- what stands there after these verdicts, the first of them first
abbrev pub after_all : Standing → List Verdict → Standing
after_all now [] = now
after_all now (verdict ∷ verdicts) = after_all (after now verdict) verdicts

-- their answers, one after the other
abbrev pub answers : Module → Standing → List Verdict → List ℕ
answers m now [] = []
answers m now (verdict ∷ verdicts) = answer m now verdict ++ answers m (after now verdict) verdicts

-- These are the verdicts on the first items, each over what stands there by then. The items behind them weren't judged.
abbrev pub Judged : Module → ℕ → Standing → List (List ℕ) → List Verdict → Type 0
Judged m at now items [] = Unit {0}
Judged m at now [] (verdict ∷ verdicts) = ⊥
Judged m at now (item ∷ items) (verdict ∷ verdicts) =
    JudgesAt m at now item verdict × Judged m at (after now verdict) items verdicts

-- the packages that were accepted, with their images
abbrev pub accepted : List Verdict → List (Offer × List ℕ)
accepted [] = []
accepted (accepts described content image key_id ∷ verdicts) = (offer_of described, image) ∷ accepted verdicts
accepted (refuses number name ∷ verdicts) = accepted verdicts

-- one of the items was refused
abbrev pub some_refused : List Verdict → Bool
some_refused [] = false
some_refused (accepts described content image key_id ∷ verdicts) = some_refused verdicts
some_refused (refuses number name ∷ verdicts) = true
