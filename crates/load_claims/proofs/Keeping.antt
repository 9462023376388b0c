-- What a power cut leaves of a run: from one item to a list, and from the loop's form to the reader's.
use Rattle.std.proofs.Common.{◌||◌, ◌≡◌, ◌≢◌, ◌⊎◌, inl, inr, ⊎_elim, IsTrue, ℕ, zero, suc, ◌+◌, ◌<◌, ◌≤◌, List, [], ◌∷◌, ◌++◌, length, get_or, take, refl, sym, ◌∙◌, ap, subst, arith, append_assoc, length-append}
use Rattle.std.proofs.lemmas.List.{append-nil}
use Rattle.std.proofs.lemmas.Bool.{cases_lt}
use Rattle.edge_board.specs.Sends.{IsFront}
use Rattle.key_state.specs.Row.{spent_in}
use Rattle.module_record.specs.declared.module.Module.{Module}
use Rattle.bank_layout.specs.Recovery.{Standing}
use Rattle.judge_core.specs.Verdicts.{Verdict, accepts, refuses}
use Rattle.load_claims.specs.Items.{JudgesAt, answer, answers, after, after_all, Judged, some_refused, uses_leaf}
use Rattle.load_claims.specs.Kept.{SentWhole, SameStore, Keeps, Kept}
use Rattle.load_claims.specs.Inside.{InOne, NotBegun, InRun}
use Rattle.load_claims.proofs.ItemLemmas.{front_rest, front_of, answer_some, same_store, signed_blank, row_after, RowAfter}

pub answers_grow : (m : Module) (start : Standing) (verdicts : List Verdict) (j k : ℕ) → j ≤ k
    → length (answers m start (take j verdicts)) ≤ length (answers m start (take k verdicts))
answers_grow m start verdicts zero k le = omega arith
answers_grow m start [] (suc j) k le = omega arith
answers_grow m start (verdict ∷ verdicts) (suc j) zero le = absurd (omega arith)
answers_grow m start (verdict ∷ verdicts) (suc j) (suc k) le =
    omega (
      arith,
      length-append (answer m start verdict) (answers m (after start verdict) (take j verdicts)),
      length-append (answer m start verdict) (answers m (after start verdict) (take k verdicts)),
      answers_grow m (after start verdict) verdicts j k (omega arith),
    )

-- answers that were sent whole, with what is left of all, and by the next alone
pub record Said (m : Module) (start : Standing) (verdicts : List Verdict) (s : List ℕ) (n : ℕ) : Type 0 where
  pub rest : List ℕ
  pub front : s ++ rest ≡ answers m start verdicts
  pub few : n ≤ length verdicts
  pub whole : length (answers m start (take n verdicts)) ≤ length s
  pub next : n < length verdicts → length s < length (answers m start (take (suc n) verdicts))

pub sent_of : (m : Module) (start : Standing) (verdicts : List Verdict) (s : List ℕ) (n : ℕ) → Said m start verdicts s n → SentWhole m start verdicts s n
sent_of m start verdicts s n said = record {
  front = front_of (answers m start verdicts) s said.rest said.front;
  few = said.few;
  whole = said.whole;
  greatest = λ k few whole. ⊎_elim
      (λ lt. absurd (omega (arith, said.next (omega (arith, lt, few)), answers_grow m start verdicts (suc n) k (omega (arith, lt)), whole)))
      (λ le. omega (arith, le))
      (cases_lt n k);
}

pub said_of : (m : Module) (start : Standing) (verdicts : List Verdict) (s : List ℕ) (n : ℕ) → SentWhole m start verdicts s n → Said m start verdicts s n
said_of m start verdicts s n sent =
    let found : (rest : List ℕ) × (s ++ rest ≡ answers m start verdicts) = front_rest (answers m start verdicts) s sent.front in
    record {
      rest = found.0;
      front = found.1;
      few = sent.few;
      whole = sent.whole;
      next = λ lt. ⊎_elim
          (λ short. short)
          (λ long. absurd (omega (arith, sent.greatest (suc n) (omega (arith, lt)) (omega (arith, long)))))
          (cases_lt (length s) (length (answers m start (take (suc n) verdicts))));
    }

judged_more : (m : Module) (at : ℕ) (now : Standing) (items rest : List (List ℕ)) (verdicts : List Verdict) → Judged m at now items verdicts → Judged m at now (items ++ rest) verdicts
judged_more m at now items rest [] judged = tt
judged_more m at now [] rest (verdict ∷ verdicts) judged = absurd judged
judged_more m at now (item ∷ items) rest (verdict ∷ verdicts) judged = (judged.0, judged_more m at (after now verdict) items rest verdicts judged.1)

module _ (m : Module) (at : ℕ) where
  -- items that weren't judged may follow
  pub kept_more : (start : Standing) (items rest : List (List ℕ)) (now : Standing) (s : List ℕ) → Kept m at start items now s → Kept m at start (items ++ rest) now s
  kept_more start items rest now s k = record {
    verdicts = k.verdicts;
    judged = judged_more m at start items rest k.verdicts k.judged;
    whole = k.whole;
    keeps = k.keeps;
  }

  -- one verdict more in front, whose answer was sent whole
  pub keeps_next : (start : Standing) (verdict : Verdict) (verdicts : List Verdict) (now : Standing) (t : List ℕ) (n : ℕ) → Keeps m (after start verdict) verdicts now t n
      → Keeps m start (verdict ∷ verdicts) now (answer m start verdict ++ t) (suc n)
  keeps_next start verdict verdicts now t n k =
      let a : List ℕ = answer m start verdict in
      let next : Standing = after start verdict in
      let said : Said m next verdicts t n = said_of m next verdicts t n k.sent in
      let longer : (vs : List Verdict) → length (answers m start (verdict ∷ vs)) ≡ length a + length (answers m next vs) = λ vs. length-append a (answers m next vs) in
      let sum : length (a ++ t) ≡ length a + length t = length-append a t in
      record {
        sent = sent_of m start (verdict ∷ verdicts) (a ++ t) (suc n) (record {
          rest = said.rest;
          front = append_assoc a t said.rest ∙ ap (λ (l : List ℕ). a ++ l) said.front;
          few = omega (arith, said.few);
          whole = omega (arith, sum, longer (take n verdicts), said.whole);
          next = λ lt. omega (arith, sum, longer (take (suc n) verdicts), said.next (omega (arith, lt)));
        });
        prefix = record {
          stands = ⊎_elim (λ same. inl same) (λ one. inr (omega (arith, one.0), one.1)) k.prefix.stands;
          certain = λ more. k.prefix.certain (omega (arith, sum, longer (take n verdicts), more));
        };
        spent = record {
          size = k.spent.size;
          others = k.spent.others;
          cause = k.spent.cause;
          blank = λ more signed. k.spent.blank (omega (arith, sum, longer (take n verdicts), more)) signed;
        };
      }

  pub kept_next : (start : Standing) (item : List ℕ) (items : List (List ℕ)) (verdict : Verdict) (now : Standing) (t : List ℕ) → JudgesAt m at start item verdict → Kept m at (after start verdict) items now t
      → Kept m at start (item ∷ items) now (answer m start verdict ++ t)
  kept_next start item items verdict now t given k = record {
    verdicts = verdict ∷ k.verdicts;
    judged = (given, k.judged);
    whole = suc k.whole;
    keeps = keeps_next start verdict k.verdicts now t k.whole k.keeps;
  }

  -- From one item to the list: law S.
  pub kept_then : (start : Standing) (done items : List (List ℕ)) (verdicts : List Verdict) (now : Standing) (t : List ℕ) → Judged m at start done verdicts → length verdicts ≡ length done
      → Kept m at (after_all start verdicts) items now t → Kept m at start (done ++ items) now (answers m start verdicts ++ t)
  kept_then start [] items [] now t judged all k = k
  kept_then start [] items (verdict ∷ verdicts) now t judged all k = absurd judged
  kept_then start (item ∷ done) items [] now t judged all k = absurd (omega arith)
  kept_then start (item ∷ done) items (verdict ∷ verdicts) now t judged all k =
      subst (λ (l : List ℕ). Kept m at start (item ∷ done ++ items) now l) (sym (append_assoc (answer m start verdict) (answers m (after start verdict) verdicts) t))
      (kept_next start item (done ++ items) verdict now (answers m (after start verdict) verdicts ++ t) judged.0
      (kept_then (after start verdict) done items verdicts now t judged.1 (omega (arith, all)) k))

  pub keeps_none : (start : Standing) → Keeps m start [] start [] 0
  keeps_none start = record {
    sent = sent_of m start [] [] 0 (record { rest = []; front = refl; few = omega arith; whole = omega arith; next = λ lt. absurd (omega arith) });
    prefix = record { stands = inl (same_store start start refl); certain = λ more. absurd (omega arith) };
    spent = record { size = refl; others = λ i ne. refl; cause = inl refl; blank = λ more signed. absurd signed };
  }

  pub kept_none : (start : Standing) (items : List (List ℕ)) → Kept m at start items start []
  kept_none start items = record { verdicts = []; judged = tt; whole = 0; keeps = keeps_none start }

  not_begun : (start : Standing) (items : List (List ℕ)) (now : Standing) (s : List ℕ) → NotBegun start now s → Kept m at start items now s
  not_begun start items now s none = subst (λ (l : List ℕ). Kept m at start items now l) (sym none.1) (subst (λ (n : Standing). Kept m at start items n []) (sym none.0) (kept_none start items))

  pub kept_one : (start : Standing) (item : List ℕ) (items : List (List ℕ)) (verdict : Verdict) (now : Standing) (s : List ℕ) → JudgesAt m at start item verdict → InOne m start verdict now s → Kept m at start (item ∷ items) now s
  kept_one start item items verdict now s given one =
      let a : List ℕ = answer m start verdict in
      let left : (rest : List ℕ) × (s ++ rest ≡ a) = front_rest a s one.front in
      let flat : length (a ++ []) ≡ length a = ap length (append-nil a) in
      let short : length s + length left.0 ≡ length a = sym (length-append s left.0) ∙ ap length left.1 in
      let front : s ++ left.0 ≡ a ++ [] = left.1 ∙ sym (append-nil a) in
      ⊎_elim
      (λ before. record {
        verdicts = verdict ∷ [];
        judged = (given, tt);
        whole = 0;
        keeps = record {
          sent = sent_of m start (verdict ∷ []) s 0 (record { rest = left.0; front = front; few = omega arith; whole = omega arith; next = λ lt. omega (arith, flat, before) });
          prefix = record {
            stands = ⊎_elim (λ same. inl same) (λ same. inr (omega arith, same)) one.stands;
            certain = λ more. same_store now (after start verdict) (one.certain more);
          };
          spent = record {
            size = one.size;
            others = one.others;
            cause = one.cause;
            blank = λ more signed. ap (λ (n : Standing). get_or n.row (spent_in start.row) 0) (one.certain more) ∙ signed_blank start verdict signed;
          };
        };
      })
      (λ whole.
      let is : now ≡ after start verdict = one.certain (omega (arith, whole, answer_some m start verdict)) in
      record {
        verdicts = verdict ∷ [];
        judged = (given, tt);
        whole = 1;
        keeps = record {
          sent = sent_of m start (verdict ∷ []) s 1 (record { rest = left.0; front = front; few = omega arith; whole = omega (arith, flat, whole); next = λ lt. absurd (omega arith) });
          prefix = record { stands = inl (same_store now (after start verdict) is); certain = λ more. absurd (omega (arith, flat, short, more)) };
          spent = record {
            size = ap (λ (n : Standing). length n.row) is;
            others = λ i ne. ap (λ (n : Standing). get_or n.row i 0) is;
            cause = inl (ap (λ (n : Standing). n.row) is);
            blank = λ more signed. absurd signed;
          };
        };
      })
      (cases_lt (length s) (length a))

  -- What a loop carries has the form that a reader wants.
  pub is_kept : (start : Standing) (items : List (List ℕ)) (now : Standing) (s : List ℕ) → InRun m at start items now s → Kept m at start items now s
  is_kept start [] now s none = not_begun start [] now s none
  is_kept start (item ∷ items) now s (inl none) = not_begun start (item ∷ items) now s none
  is_kept start (item ∷ items) now s (inr (verdict, given, inl one)) = kept_one start item items verdict now s given one
  is_kept start (item ∷ items) now s (inr (verdict, given, inr (rest, is, inside))) =
      subst (λ (l : List ℕ). Kept m at start (item ∷ items) now l) (sym is)
      (kept_next start item items verdict now rest given (is_kept (after start verdict) items now rest inside))

  -- ---- a loop

  pub in_run_then : (start : Standing) (done items : List (List ℕ)) (verdicts : List Verdict) (now : Standing) (t : List ℕ) → Judged m at start done verdicts → length verdicts ≡ length done
      → InRun m at (after_all start verdicts) items now t → InRun m at start (done ++ items) now (answers m start verdicts ++ t)
  in_run_then start [] items [] now t judged all inside = inside
  in_run_then start [] items (verdict ∷ verdicts) now t judged all inside = absurd judged
  in_run_then start (item ∷ done) items [] now t judged all inside = absurd (omega arith)
  in_run_then start (item ∷ done) items (verdict ∷ verdicts) now t judged all inside =
      inr (
        verdict,
        judged.0,
        inr (
          answers m (after start verdict) verdicts ++ t,
          append_assoc (answer m start verdict) (answers m (after start verdict) verdicts) t,
          in_run_then (after start verdict) done items verdicts now t judged.1 (omega (arith, all)) inside,
        ),
      )

  -- ---- verdicts on items, and on those that follow them

  pub judged_then : (now : Standing) (done items : List (List ℕ)) (some more : List Verdict) → Judged m at now done some → length some ≡ length done
      → Judged m at (after_all now some) items more → Judged m at now (done ++ items) (some ++ more)
  judged_then now [] items [] more judged size rest = rest
  judged_then now [] items (v ∷ some) more judged size rest = absurd judged
  judged_then now (i ∷ done) items [] more judged size rest = absurd (omega arith)
  judged_then now (i ∷ done) items (v ∷ some) more judged size rest = (judged.0, judged_then (after now v) done items some more judged.1 (omega (arith, size)) rest)

  pub answers_then : (now : Standing) (some more : List Verdict) → answers m now (some ++ more) ≡ answers m now some ++ answers m (after_all now some) more
  answers_then now [] more = refl
  answers_then now (v ∷ some) more =
      ap (λ (l : List ℕ). answer m now v ++ l) (answers_then (after now v) some more)
      ∙ sym (append_assoc (answer m now v) (answers m (after now v) some) (answers m (after_all now (v ∷ some)) more))

  pub after_then : (now : Standing) (some more : List Verdict) → after_all now (some ++ more) ≡ after_all (after_all now some) more
  after_then now [] more = refl
  after_then now (v ∷ some) more = after_then (after now v) some more

  pub refused_then : (some more : List Verdict) → some_refused (some ++ more) ≡ some_refused some || some_refused more
  refused_then [] more = refl
  refused_then (accepts described content image key_id ∷ some) more = refused_then some more
  refused_then (refuses number name ∷ some) more = refl

  pub in_run_start : (start : Standing) (items : List (List ℕ)) → InRun m at start items start []
  in_run_start start [] = (refl, refl)
  in_run_start start (item ∷ items) = inl (refl, refl)

  -- items that weren't reached may follow
  pub in_run_more : (start : Standing) (items rest : List (List ℕ)) (now : Standing) (s : List ℕ) → InRun m at start items now s → InRun m at start (items ++ rest) now s
  in_run_more start [] rest now s none = subst (λ (l : List ℕ). InRun m at start rest now l) (sym none.1) (subst (λ (n : Standing). InRun m at start rest n []) (sym none.0) (in_run_start start rest))
  in_run_more start (item ∷ items) rest now s (inl none) = inl none
  in_run_more start (item ∷ items) rest now s (inr (verdict, given, inl one)) = inr (verdict, given, inl one)
  in_run_more start (item ∷ items) rest now s (inr (verdict, given, inr (more, is, inside))) = inr (verdict, given, inr (more, is, in_run_more (after start verdict) items rest now more inside))

-- ---- inside one item, as the loader goes through it

module _ (m : Module) (start : Standing) (verdict : Verdict) where
  -- before an install, during it and after it, with no leaf spent
  pub one_installing : (now : Standing) → (SameStore now start ⊎ SameStore now (after start verdict)) → now.row ≡ start.row → InOne m start verdict now []
  one_installing now stands row = record {
    front = front_of (answer m start verdict) [] (answer m start verdict) refl;
    stands = stands;
    size = ap length row;
    others = λ i ne. ap (λ (l : List ℕ). get_or l i 0) row;
    cause = inl row;
    certain = λ more. absurd (omega arith);
  }

  -- while its leaf is being spent
  pub one_spending : (now : Standing) → IsTrue (uses_leaf verdict) → SameStore now (after start verdict) → length now.row ≡ length start.row → ((i : ℕ) → i ≢ spent_in start.row → get_or now.row i 0 ≡ get_or start.row i 0)
      → InOne m start verdict now []
  one_spending now uses stands size others = record {
    front = front_of (answer m start verdict) [] (answer m start verdict) refl;
    stands = inr stands;
    size = size;
    others = others;
    cause = inr uses;
    certain = λ more. absurd (omega arith);
  }

  -- while it is sent: all is new
  pub one_sending : (s : List ℕ) → IsFront (answer m start verdict) s → InOne m start verdict (after start verdict) s
  one_sending s front =
      let r : RowAfter start verdict = row_after start verdict in record {
        front = front;
        stands = inr (same_store (after start verdict) (after start verdict) refl);
        size = r.size;
        others = r.others;
        cause = r.cause;
        certain = λ more. refl;
      }
