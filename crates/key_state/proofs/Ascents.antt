-- In a history the leaves that are given ascend.
use Rattle.std.proofs.Common.{◌≡◌, ◌≢◌, ⊎_elim, inl, inr, ℕ, zero, suc, ◌+◌, ◌<◌, ◌≤◌, List, [], ◌∷◌, ◌++◌, length, get_or, sym, ◌∙◌, ap, arith}
use Rattle.std.specs.Prelude.{Contains, AllPairs}
use Rattle.std.proofs.lemmas.List.Elements.{Contains-push_cases}
use Rattle.std.proofs.lemmas.Bool.{cases_eq}
use Rattle.key_state.specs.Row.{spent_in, use_in}
use Rattle.key_state.specs.Histories.{Event, IsHistory, FailsTo, CutsTo, leaves_given}
use Rattle.key_state.specs.Histories.Event.{gives, fails, cuts}
use Rattle.key_state.proofs.Rows.{before_first, first_after, length-use_in, use_at, use_other}

-- Each leaf below this one is spent, and a power cut doesn't change that.
record IsSure (row doubt : List ℕ) (low : ℕ) : Type 0 where
  few : low ≤ length row
  used : (i : ℕ) → i < low → get_or row i 0 ≢ 255
  sure : (i : ℕ) → i < low → ¬ Contains doubt i

-- the numbers are at least this one, and each is above the one before
abbrev Ascends : ℕ → List ℕ → Type 0
Ascends low [] = Unit {0}
Ascends low (x ∷ xs) = (low ≤ x) × Ascends (x + 1) xs

-- the first unspent leaf is none of the sure ones
first_is_above : (row doubt : List ℕ) (low : ℕ) → IsSure row doubt low → low ≤ spent_in row
first_is_above row doubt low is = first_after row low is.few is.used

-- after a leaf was given, it and those before it are sure
after_use : (row : List ℕ) (leaf : ℕ) → leaf < length row → leaf ≡ spent_in row
    → IsSure (use_in row) [] (leaf + 1)
after_use row leaf lt first = record {
  few = omega (arith, length-use_in row, lt);
  used = λ i below is. elim (cases_eq i leaf) [
    | inl same ↦ absurd (omega (
      arith,
      is,
      ap (λ (k : ℕ). get_or (use_in row) k 0) (same ∙ first),
      use_at row (omega (arith, lt, first)),
    ))
    | inr other ↦ before_first row i (omega (arith, below, other, first))
        (sym (use_other row i (λ e. other (e ∙ sym first))) ∙ is)
  ];
  sure = λ i below contains. absurd (omega (arith, contains.1));
}

-- a spend that gives none changes no sure leaf
after_failure : (row doubt next : List ℕ) (low : ℕ) → IsSure row doubt low → FailsTo row next
    → IsSure next (doubt ++ spent_in row ∷ []) low
after_failure row doubt next low is keeps =
    let first = first_is_above row doubt low is in
    record {
      few = omega (arith, keeps.size, is.few);
      used = λ i below ff. is.used i below (sym (keeps.each i (λ e. absurd (omega (arith, e, below, first)))) ∙ ff);
      sure = λ i below contains. ⊎_elim (is.sure i below) (λ e. absurd (omega (arith, e, below, first)))
          (Contains-push_cases doubt (spent_in row) i contains);
    }

-- and neither does a power cut
after_cut : (row doubt next : List ℕ) (low : ℕ) → IsSure row doubt low → CutsTo row doubt next → IsSure next [] low
after_cut row doubt next low is keeps =
    let first = first_is_above row doubt low is in
    record {
      few = omega (arith, keeps.size, is.few);
      used = λ i below ff. is.used i below
          (sym (keeps.each i (⊎_elim (λ e. absurd (omega (arith, e, below, first))) (is.sure i below))) ∙ ff);
      sure = λ i below contains. absurd (omega (arith, contains.1));
    }

-- so each leaf that is given comes after the sure ones
history_ascends : (events : List Event) (row doubt : List ℕ) (low : ℕ) → IsSure row doubt low
    → IsHistory row doubt events → Ascends low (leaves_given events)
history_ascends [] row doubt low is history = tt
history_ascends (gives leaf next ∷ events) row doubt low is history = (
  omega (arith, history.0.1, first_is_above row doubt low is),
  history_ascends events next [] (leaf + 1)
      (rw history.0.2 (after_use row leaf history.0.0 history.0.1)) history.1,
)
history_ascends (fails next ∷ events) row doubt low is history =
    history_ascends events next (doubt ++ spent_in row ∷ []) low
    (after_failure row doubt next low is history.0) history.1
history_ascends (cuts next ∷ events) row doubt low is history =
    history_ascends events next [] low (after_cut row doubt next low is history.0) history.1

-- numbers that ascend from low on are all at least low
all_above : (xs : List ℕ) (low k d : ℕ) → Ascends low xs → k < length xs → low ≤ get_or xs k d
all_above [] low k d is lt = absurd (omega arith)
all_above (x ∷ xs) low zero d is lt = is.0
all_above (x ∷ xs) low (suc k) d is lt = omega (arith, is.0, all_above xs (x + 1) k d is.1 (omega arith))

-- and each is below all later ones
pairs_ascend : (xs : List ℕ) (low i j d : ℕ) → Ascends low xs → i < j → j < length xs → get_or xs i d < get_or xs j d
pairs_ascend [] low i j d is lt few = absurd (omega arith)
pairs_ascend (x ∷ xs) low i zero d is lt few = absurd (omega arith)
pairs_ascend (x ∷ xs) low zero (suc j) d is lt few = omega (arith, all_above xs (x + 1) j d is.1 (omega arith))
pairs_ascend (x ∷ xs) low (suc i) (suc j) d is lt few = pairs_ascend xs (x + 1) i j d is.1 (omega arith) (omega arith)

-- each leaf that is given is below all later ones
pub leaves_ascend : (row doubt : List ℕ) (events : List Event) → IsHistory row doubt events
    → AllPairs (λ earlier later. earlier < later) (leaves_given events)
leaves_ascend row doubt events history i j d lt few =
    pairs_ascend (leaves_given events) 0 i j d
    (history_ascends events row doubt 0
    (record {
      few = omega arith;
      used = λ i below. absurd (omega arith);
      sure = λ i below. absurd (omega arith);
    })
    history)
    lt few
