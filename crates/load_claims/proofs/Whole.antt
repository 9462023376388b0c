-- What was kept is of the verdicts on all items, where each has one; and a run says one thing.
use Rattle.std.proofs.Common.{◌≡◌, ⊎_elim, inl, inr, ℕ, zero, suc, ◌+◌, ◌<◌, ◌≤◌, List, [], ◌∷◌, ◌++◌, length, get_or, take, refl, sym, ◌∙◌, ap, subst, arith, append_assoc, length-append}
use Rattle.std.specs.Prelude.{drop}
use Rattle.std.proofs.lemmas.List.{take_all, take-append-le}
use Rattle.std.proofs.Math.Seq.{take-append-add}
use Rattle.std.proofs.lemmas.Bool.{cases_lt}
use Rattle.key_state.specs.Row.{spent_in}
use Rattle.module_record.specs.declared.module.Module.{Module}
use Rattle.bank_layout.specs.Recovery.{Standing}
use Rattle.judge_core.specs.Verdicts.{Verdict}
use Rattle.load_claims.specs.Items.{JudgesAt, answer, answers, after, after_all, Judged}
use Rattle.load_claims.specs.Kept.{SameStore, Prefix, Spent, Keeps, Kept, NextUsesLeaf, NextIsSigned}
use Rattle.load_claims.proofs.ItemLemmas.{answer_some}
use Rattle.load_claims.proofs.Keeping.{Said, said_of, sent_of}

module _ (m : Module) (at : ℕ) (one : (now : Standing) (item : List ℕ) (v w : Verdict) → JudgesAt m at now item v → JudgesAt m at now item w → v ≡ w) where
  -- the verdicts on the first items are the first of those on all
  pub rest_of : (now : Standing) (items : List (List ℕ)) (some all : List Verdict) → Judged m at now items some → Judged m at now items all → length all ≡ length items → (more : List Verdict) × (some ++ more ≡ all)
  rest_of now items [] all a b size = (all, refl)
  rest_of now [] (v ∷ some) all a b size = absurd a
  rest_of now (item ∷ items) (v ∷ some) [] a b size = absurd (omega arith)
  rest_of now (item ∷ items) (v ∷ some) (w ∷ all) a b size =
      let is : v ≡ w = one now item v w a.0 b.0 in
      let rest : (more : List Verdict) × (some ++ more ≡ all) = rest_of (after now w) items some all (subst (λ (x : Verdict). Judged m at (after now x) items some) is a.1) b.1 (omega (arith, size)) in
      (rest.0, ap (λ (x : Verdict). x ∷ some ++ rest.0) is ∙ ap (λ (l : List Verdict). w ∷ l) rest.1)

  -- and items have one list of verdicts
  pub same_verdicts : (now : Standing) (items : List (List ℕ)) (a b : List Verdict) → Judged m at now items a → Judged m at now items b → length a ≡ length b → a ≡ b
  same_verdicts now items [] [] first second size = refl
  same_verdicts now items [] (w ∷ b) first second size = absurd (omega (arith, size))
  same_verdicts now items (v ∷ a) [] first second size = absurd (omega (arith, size))
  same_verdicts now [] (v ∷ a) (w ∷ b) first second size = absurd first
  same_verdicts now (item ∷ items) (v ∷ a) (w ∷ b) first second size =
      let is : v ≡ w = one now item v w first.0 second.0 in
      let rest : a ≡ b = same_verdicts (after now w) items a b (subst (λ (x : Verdict). Judged m at (after now x) items a) is first.1) second.1 (omega (arith, size)) in
      ap (λ (x : Verdict). x ∷ a) is ∙ ap (λ (l : List Verdict). w ∷ l) rest

answers-append : (m : Module) (start : Standing) (a b : List Verdict) → length (answers m start (a ++ b)) ≡ length (answers m start a) + length (answers m (after_all start a) b)
answers-append m start [] b = omega arith
answers-append m start (v ∷ a) b = omega (arith, length-append (answer m start v) (answers m (after start v) (a ++ b)), length-append (answer m start v) (answers m (after start v) a), answers-append m (after start v) a b)

answers_joined : (m : Module) (start : Standing) (a b : List Verdict) → answers m start (a ++ b) ≡ answers m start a ++ answers m (after_all start a) b
answers_joined m start [] b = refl
answers_joined m start (v ∷ a) b = ap (λ (l : List ℕ). answer m start v ++ l) (answers_joined m (after start v) a b) ∙ sym (append_assoc (answer m start v) (answers m (after start v) a) (answers m (after_all (after start v) a) b))

next_uses_more : (n : ℕ) (a b : List Verdict) → NextUsesLeaf (drop n a) → NextUsesLeaf (drop n (a ++ b))
next_uses_more zero [] b h = absurd h
next_uses_more zero (v ∷ a) b h = h
next_uses_more (suc n) [] b h = absurd h
next_uses_more (suc n) (v ∷ a) b h = next_uses_more n a b h

next_signed_back : (now : Standing) (n : ℕ) (a b : List Verdict) → n < length a → NextIsSigned now (drop n (a ++ b)) → NextIsSigned now (drop n a)
next_signed_back now zero [] b lt h = absurd (omega arith)
next_signed_back now zero (v ∷ a) b lt h = h
next_signed_back now (suc n) [] b lt h = absurd (omega arith)
next_signed_back now (suc n) (v ∷ a) b lt h = next_signed_back now n a b (omega (arith, lt)) h

module _ (m : Module) (start : Standing) (a b : List Verdict) (s : List ℕ) (n : ℕ) (sent : Said m start a s n) where
  same_take : (k : ℕ) → k ≤ length a → take k (a ++ b) ≡ take k a
  same_take k le = take-append-le k a b le

  longer_next : n < length (a ++ b) → length s < length (answers m start (take (suc n) (a ++ b)))
  longer_next lt = ⊎_elim
      (λ within. subst (λ (l : List Verdict). length s < length (answers m start l)) (sym (same_take (suc n) (omega (arith, within)))) (sent.next within))
      (λ end. at_end b (omega (arith, end, sent.few)) (omega (arith, lt, length-append a b)))
      (cases_lt n (length a))
    where
      at_end : (b : List Verdict) → n ≡ length a → n < length a + length b → length s < length (answers m start (take (suc n) (a ++ b)))
      at_end [] is lt = absurd (omega (arith, is, lt))
      at_end (v ∷ rest) is lt =
          let one_more : suc n ≡ length a + 1 = omega (arith, is) in
          let front : take (suc n) (a ++ v ∷ rest) ≡ a ++ v ∷ [] = ap (λ (k : ℕ). take k (a ++ v ∷ rest)) one_more ∙ take-append-add a (v ∷ rest) 1 in
          omega (
            arith,
            ap (λ (l : List Verdict). length (answers m start l)) front,
            answers-append m start a (v ∷ []),
            length-append (answer m (after_all start a) v) [],
            answer_some m (after_all start a) v,
            length-append s sent.rest,
            ap length sent.front,
          )

  said_of_all : Said m start (a ++ b) s n
  said_of_all = record {
    rest = sent.rest ++ answers m (after_all start a) b;
    front = sym (append_assoc s sent.rest (answers m (after_all start a) b)) ∙ ap (λ (l : List ℕ). l ++ answers m (after_all start a) b) sent.front ∙ sym (answers_joined m start a b);
    few = omega (arith, sent.few, length-append a b);
    whole = subst (λ (l : List Verdict). length (answers m start l) ≤ length s) (sym (same_take n sent.few)) sent.whole;
    next = longer_next;
  }

  -- where more than n answers were sent there is a next verdict
  next_within : length (answers m start (take n (a ++ b))) < length s → n < length a
  next_within more = ⊎_elim (λ lt. lt)
      (λ end. absurd (omega (arith, length-append s sent.rest, ap length sent.front, more, ap (λ (l : List Verdict). length (answers m start l)) (same_take n sent.few ∙ take_all n a end))))
      (cases_lt n (length a))

  was_more : length (answers m start (take n (a ++ b))) < length s → length (answers m start (take n a)) < length s
  was_more more = subst (λ (l : List Verdict). length (answers m start l) < length s) (same_take n sent.few) more

  prefix_of_all : (now : Standing) → Prefix m start a now s n → Prefix m start (a ++ b) now s n
  prefix_of_all now prefix = record {
    stands = ⊎_elim
        (λ same. inl (subst (λ (l : List Verdict). SameStore now (after_all start l)) (sym (same_take n sent.few)) same))
        (λ one. inr (omega (arith, one.0, length-append a b), subst (λ (l : List Verdict). SameStore now (after_all start l)) (sym (same_take (suc n) (omega (arith, one.0)))) one.1))
        prefix.stands;
    certain = λ more. subst (λ (l : List Verdict). SameStore now (after_all start l)) (sym (same_take (suc n) (omega (arith, next_within more)))) (prefix.certain (was_more more));
  }

  spent_of_all : (now : Standing) → Spent m start a now s n → Spent m start (a ++ b) now s n
  spent_of_all now spent =
      let is : take n (a ++ b) ≡ take n a = same_take n sent.few in
      record {
        size = spent.size ∙ sym (ap (λ (l : List Verdict). length (after_all start l).row) is);
        others = λ i ne. spent.others i (λ e. ne (e ∙ sym (ap (λ (l : List Verdict). spent_in (after_all start l).row) is))) ∙ sym (ap (λ (l : List Verdict). get_or (after_all start l).row i 0) is);
        cause = ⊎_elim (λ same. inl (same ∙ sym (ap (λ (l : List Verdict). (after_all start l).row) is))) (λ uses. inr (next_uses_more n a b uses)) spent.cause;
        blank = λ more signed. ap (λ (l : List Verdict). get_or now.row (spent_in (after_all start l).row) 0) is
            ∙ spent.blank (was_more more) (next_signed_back (after_all start (take n a)) n a b (next_within more) (subst (λ (l : List Verdict). NextIsSigned (after_all start l) (drop n (a ++ b))) is signed));
      }

-- what holds of the verdicts on the first items holds of more verdicts
pub keeps_of_all : (m : Module) (start : Standing) (a b : List Verdict) (now : Standing) (s : List ℕ) (n : ℕ) → Keeps m start a now s n → Keeps m start (a ++ b) now s n
keeps_of_all m start a b now s n k =
    let said : Said m start a s n = said_of m start a s n k.sent in
    record {
      sent = sent_of m start (a ++ b) s n (said_of_all m start a b s n said);
      prefix = prefix_of_all m start a b s n said now k.prefix;
      spent = spent_of_all m start a b s n said now k.spent;
    }

-- what is kept, over the verdicts on all items
pub kept_of_all : (m : Module) (at : ℕ) (one : (now : Standing) (item : List ℕ) (v w : Verdict) → JudgesAt m at now item v → JudgesAt m at now item w → v ≡ w)
    → (start now : Standing) (items : List (List ℕ)) (all : List Verdict) (s : List ℕ) → Judged m at start items all → length all ≡ length items
    → Kept m at start items now s → (n : ℕ) × Keeps m start all now s n
kept_of_all m at one start now items all s judged size k =
    let rest : (more : List Verdict) × (k.verdicts ++ more ≡ all) = rest_of m at one start items k.verdicts all k.judged judged size in
    (k.whole, subst (λ (l : List Verdict). Keeps m start l now s k.whole) rest.1 (keeps_of_all m start k.verdicts rest.0 now s k.whole k.keeps))
