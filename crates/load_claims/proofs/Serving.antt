-- One item over a board, by what each step of it leaves; and items one after the other.
use Rattle.std.proofs.Common.{length-append, ◌||◌, Bool, false, ◌≡◌, ◌≢◌, ◌⊎◌, inl, inr, ⊎_elim, ℕ, ◌+◌, ◌≤◌, List, [], ◌∷◌, ◌++◌, length, drop, get_or, refl, sym, ◌∙◌, ap, subst, arith, IsTrue, false, length-take, length-drop, append_assoc}
use Rattle.std.proofs.lemmas.List.{append-nil, get_or_past}
use Rattle.std.proofs.lemmas.Bool.{cases_lt}
use Rattle.edge_board.specs.Board.{View, Keeps, IsHonest, IsSettled, InBlock, Sent, SameTest}
use Rattle.edge_board.specs.Runs.{LeavesOnly, Touches, Spares}
use Rattle.edge_board.specs.Sends.{Sending, SendsFront}
use Rattle.edge_board.proofs.RunLemmas.{leaves_weaker, goes_on, started, keeps_settled, settled_image, keeps_wider}
use Rattle.edge_board.proofs.SendLemmas.{sent_all, sending_none, sending_then}
use Rattle.key_state.specs.Row.{spent_in, use_in}
use Rattle.key_state.specs.KeyBlock.{row_of, row_start, FirstUnspent, IsLeafCount}
use Rattle.key_state.proofs.Rows.{row_cell}
use Rattle.lms_sign.specs.PublicKeys.{leaf_count}
use Rattle.module_record.specs.declared.module.Module.{Module}
use Rattle.bank_layout.specs.Recovery.{Standing, Recovers}
use Rattle.bank_layout.specs.Recovery.Holder.{module_board}
use Rattle.judge_core.specs.Verdicts.{Verdict}
use Rattle.load_claims.specs.Items.{JudgesAt, Judged, answer, answers, after, after_all, some_refused, uses_leaf}
use Rattle.load_claims.specs.Kept.{SameStore, Finds, KeptIn}
use Rattle.load_claims.specs.Inside.{InOne, InRun}
use Rattle.load_claims.specs.Boards.{Loads, CutsKeep, LeavesRun, IsInstalled}
use Rattle.load_claims.proofs.ItemLemmas.{standing_is, same_store, after_used}
use Rattle.load_claims.proofs.Rows.{use_full}
use Rattle.load_claims.proofs.Keeping.{is_kept, one_installing, one_spending, one_sending, judged_then, answers_then, after_then, refused_then, in_run_start, in_run_then}

-- what is needed of recovery: the row that is found is that of its block, and what changes in that block alone changes
-- the row alone
pub record RowLaws : Type 0 where
  pub row : (m : Module) (image : List ℕ) (now : Standing) → Recovers image (module_board m now) → now.row ≡ row_of (leaf_count m.key) image
  pub apart : (m : Module) (image other : List ℕ) (now : Standing) → Recovers image (module_board m now) → Keeps (InBlock 17) image other
      → Recovers other (module_board m (record { sequence = now.sequence; state = now.state; row = row_of (leaf_count m.key) other }))

module _ (m : Module) (at : ℕ) where
  abbrev Inside : Standing → List (List ℕ) → List ℕ → List ℕ → Type 0
  Inside start items image s = Finds m (λ now. InRun m at start items now s) image

  -- nothing happened yet, while the image is one that recovers to what stood there
  pub quiet : (start : Standing) (items : List (List ℕ)) (a b : View) → LeavesOnly a b (λ image s. Recovers image (module_board m start) × a.sent s) → LeavesRun m at start items a b
  quiet start items a b leaves = sending_none a b (λ image s. Recovers image (module_board m start) × a.sent s) (Inside start items) leaves
      (λ image s both. (both.1, (start, both.0, in_run_start m at start items)))

  -- before the first call
  pub begun : {tc tm : Type 0} (start : Standing) (items : List (List ℕ)) (a : View) → IsHonest tc tm a → IsSettled a → Recovers a.cells (module_board m start) → LeavesRun m at start items a a
  begun start items a honest settled found = quiet start items a a
      (started a (λ image s. Recovers image (module_board m start) × a.sent s) honest
      (λ image s now. (subst (λ (i : List ℕ). Recovers i (module_board m start)) (sym (settled_image a settled image now.0)) found, now.1)))

  module _ (start : Standing) (item : List ℕ) (verdict : Verdict) (given : JudgesAt m at start item verdict) where
    inside : (now : Standing) (s : List ℕ) → InOne m start verdict now s → InRun m at start (item ∷ []) now s
    inside now s one = inr (verdict, given, inl one)

    -- an install: what stood there, or this, which is new but for the row
    pub installing : (made : Standing) (a b : View) → SameStore made (after start verdict) → made.row ≡ start.row
        → LeavesOnly a b (λ image s. (Recovers image (module_board m start) ⊎ Recovers image (module_board m made)) × a.sent s)
        → LeavesRun m at start (item ∷ []) a b
    installing made a b store row leaves = sending_none a b (λ image s. (Recovers image (module_board m start) ⊎ Recovers image (module_board m made)) × a.sent s) (Inside start (item ∷ [])) leaves
        (λ image s both. (
          both.1,
          ⊎_elim
              (λ old. (start, old, inside start [] (one_installing m start verdict start (inl (same_store start start refl)) refl)))
              (λ new. (made, new, inside made [] (one_installing m start verdict made (inr store) row)))
              both.0,
        ))

    -- after an install, before anything else
    pub installed_begun : {tc tm : Type 0} (a : View) → IsHonest tc tm a → IsInstalled m at start item verdict a → LeavesRun m at start (item ∷ []) a a
    installed_begun a honest installed = started a (Sending a (Inside start (item ∷ []))) honest
        (λ image s now. (
          s,
          [],
          now.1,
          sym (append-nil s),
          (
            installed.standing,
            subst (λ (i : List ℕ). Recovers i (module_board m installed.standing)) (sym (settled_image a installed.settled image now.0)) installed.found,
            inside installed.standing [] (one_installing m start verdict installed.standing (inr installed.store) installed.row),
          ),
        ))

    -- then a spend: the row's first unspent leaf may be spent
    pub spending : {told : Type 0} (a b c : View) → told → RowLaws → IsTrue (uses_leaf verdict) → IsLeafCount (leaf_count m.key) → LeavesRun m at start (item ∷ []) a b
        → SameTest a.sent b.sent → IsInstalled m at start item verdict b → Touches told (FirstUnspent (leaf_count m.key) b.cells) b c → LeavesRun m at start (item ∷ []) a c
    spending a b c told laws uses count before silent installed touches =
        goes_on a b c (Sending a (Inside start (item ∷ []))) (Spares (FirstUnspent (leaf_count m.key) b.cells) b) before (touches.images told)
        (λ image s spares.
        let leaves : ℕ = leaf_count m.key in
        let now : Standing = installed.standing in
        let keeps : Keeps (FirstUnspent leaves b.cells) b.cells image = keeps_settled b image installed.settled spares.0 in
        let there : start.row ≡ row_of leaves b.cells = sym installed.row ∙ laws.row m b.cells now installed.found in
        let found_now : Standing = record { sequence = now.sequence; state = now.state; row = row_of leaves image } in (
          s,
          [],
          silent.back s spares.1,
          sym (append-nil s),
          (
            found_now,
            laws.apart m b.cells image now installed.found (in_block leaves b.cells image count keeps),
            inside found_now [] (one_spending m start verdict found_now uses (record { sequence = installed.store.sequence; state = installed.store.state })
                (row_size leaves b.cells image keeps.size ∙ sym (ap length there))
                (λ i ne. row_others leaves b.cells image keeps i (λ e. ne (e ∙ sym (ap spent_in there))) ∙ sym (ap (λ (l : List ℕ). get_or l i 0) there))),
          ),
        ))
      where
        row_size : (leaves : ℕ) (old new : List ℕ) → length new ≡ length old → length (row_of leaves new) ≡ length (row_of leaves old)
        row_size leaves old new same = omega (arith, length-take leaves (drop row_start new), length-take leaves (drop row_start old), length-drop row_start new, length-drop row_start old, same)

        row_others : (leaves : ℕ) (old new : List ℕ) → Keeps (FirstUnspent leaves old) old new → (i : ℕ) → i ≢ spent_in (row_of leaves old) → get_or (row_of leaves new) i 0 ≡ get_or (row_of leaves old) i 0
        row_others leaves old new keeps i ne = ⊎_elim
            (λ lt. row_cell leaves i new lt ∙ keeps.each (row_start + i) (λ first. ne (omega (arith, first.1))) ∙ sym (row_cell leaves i old lt))
            (λ past. get_or_past (row_of leaves new) i 0 (omega (arith, length-take leaves (drop row_start new), past)) ∙ sym (get_or_past (row_of leaves old) i 0 (omega (arith, length-take leaves (drop row_start old), past))))
            (cases_lt i leaves)

        in_block : (leaves : ℕ) (old new : List ℕ) → IsLeafCount leaves → Keeps (FirstUnspent leaves old) old new → Keeps (InBlock 17) old new
        in_block leaves old new count keeps = keeps_wider old new (λ i first. ⊎_elim (λ e. omega (arith, e, first.0, first.1)) (λ e. omega (arith, e, first.0, first.1)) count) keeps

    -- what is found after it; where no leaf was left, that is what was found before
    pub spent_found : (b c : View) → RowLaws → IsTrue (uses_leaf verdict) → IsLeafCount (leaf_count m.key) → IsInstalled m at start item verdict b
        → Keeps (FirstUnspent (leaf_count m.key) b.cells) b.cells c.cells → row_of (leaf_count m.key) c.cells ≡ use_in (row_of (leaf_count m.key) b.cells) → Recovers c.cells (module_board m (after start verdict))
    spent_found b c laws uses count installed keeps used =
        let leaves : ℕ = leaf_count m.key in
        let now : Standing = installed.standing in
        let found_now : Standing = record { sequence = now.sequence; state = now.state; row = row_of leaves c.cells } in
        let is : found_now ≡ after start verdict = standing_is found_now (after start verdict) (record { sequence = installed.store.sequence; state = installed.store.state })
        (used ∙ ap use_in (sym (laws.row m b.cells now installed.found) ∙ installed.row) ∙ sym (after_used start verdict uses)) in
        subst (λ (n : Standing). Recovers c.cells (module_board m n)) is
        (laws.apart m b.cells c.cells now installed.found (keeps_wider b.cells c.cells (λ i first. ⊎_elim (λ e. omega (arith, e, first.0, first.1)) (λ e. omega (arith, e, first.0, first.1)) count) keeps))

    -- no leaf was left, so the row stays
    pub full_found : (b : View) → RowLaws → IsTrue (uses_leaf verdict) → IsInstalled m at start item verdict b → length start.row ≤ spent_in start.row → Recovers b.cells (module_board m (after start verdict))
    full_found b laws uses installed full = subst (λ (n : Standing). Recovers b.cells (module_board m n))
        (standing_is installed.standing (after start verdict) installed.store (installed.row ∙ sym (use_full start.row full) ∙ sym (after_used start verdict uses))) installed.found

    -- then a send
    pub sending : (a c d : View) → LeavesRun m at start (item ∷ []) a c → IsSettled c → Recovers c.cells (module_board m (after start verdict)) → SameTest a.sent c.sent
        → LeavesOnly c d (SendsFront c (answer m start verdict)) → LeavesRun m at start (item ∷ []) a d
    sending a c d before settled found silent sends =
        goes_on a c d (Sending a (Inside start (item ∷ []))) (SendsFront c (answer m start verdict)) before sends
        (λ image q h. (
          h.0,
          h.1,
          silent.back h.0 h.2,
          h.3,
          (
            after start verdict,
            subst (λ (i : List ℕ). Recovers i (module_board m (after start verdict))) (sym (settled_image c settled image h.4.0)) found,
            inside (after start verdict) h.1 (one_sending m start verdict h.1 h.4.1),
          ),
        ))

    -- and the item is answered
    pub answered : (a c d : View) → SameTest a.sent c.sent → Sent c d (answer m start verdict) → Recovers d.cells (module_board m (after start verdict))
        → Loads m at start (after start verdict) (item ∷ []) (some_refused (verdict ∷ [])) a d
    answered a c d silent sent found = record {
      verdicts = verdict ∷ [];
      judged = (given, tt);
      all = refl;
      refused_is = refl;
      end_is = refl;
      sent = λ p h. subst (λ (l : List ℕ). d.sent (p ++ l)) (sym (append-nil (answer m start verdict))) (sent p (silent.forth p h));
      found = found;
    }

  -- from one step of an item to the next, where nothing was sent before
  pub goes_further : (start : Standing) (items : List (List ℕ)) (a b c : View) → LeavesRun m at start items a b → SameTest a.sent b.sent → LeavesRun m at start items b c → LeavesRun m at start items a c
  goes_further start items a b c first silent second = goes_on a b c (Sending a (Inside start items)) (Sending b (Inside start items)) first second
      (λ image q h. (h.0, h.1, silent.back h.0 h.2, h.3, h.4))

  -- ---- items one after the other

  pub loads_none : (start : Standing) (a : View) → Recovers a.cells (module_board m start) → Loads m at start start [] false a a
  loads_none start a found = record {
    verdicts = [];
    judged = tt;
    all = refl;
    refused_is = refl;
    end_is = refl;
    sent = λ p h. subst a.sent (sym (append-nil p)) h;
    found = found;
  }

  pub loads_then : (start mid end : Standing) (done items : List (List ℕ)) (some more : Bool) (a b c : View)
      → Loads m at start mid done some a b → Loads m at mid end items more b c → Loads m at start end (done ++ items) (some || more) a c
  loads_then start mid end done items some more a b c first second =
      let vs : List Verdict = first.verdicts in
      let ws : List Verdict = second.verdicts in
      let sent_then : answers m start vs ++ answers m mid ws ≡ answers m start (vs ++ ws) =
      ap (λ (s : Standing). answers m start vs ++ answers m s ws) first.end_is ∙ sym (answers_then m at start vs ws) in
      record {
        verdicts = vs ++ ws;
        judged = judged_then m at start done items vs ws first.judged first.all (subst (λ (s : Standing). Judged m at s items ws) first.end_is second.judged);
        all = omega (arith, length-append vs ws, length-append done items, first.all, second.all);
        refused_is = refused_then m at vs ws ∙ ap (λ (r : Bool). r || some_refused ws) first.refused_is ∙ ap (λ (r : Bool). some || r) second.refused_is;
        end_is = second.end_is ∙ ap (λ (s : Standing). after_all s ws) first.end_is ∙ sym (after_then m at start vs ws);
        sent = λ p h. subst (λ (l : List ℕ). c.sent (p ++ l)) sent_then
            (subst c.sent (append_assoc p (answers m start vs) (answers m mid ws)) (second.sent (p ++ answers m start vs) (first.sent p h)));
        found = second.found;
      }

  pub leaves_then : {tc tm : Type 0} → tm → (start mid : Standing) (done items : List (List ℕ)) (some : Bool) (a b c : View) → IsHonest tc tm a → IsHonest tc tm b
      → Loads m at start mid done some a b → LeavesRun m at start (done ++ items) a b → LeavesRun m at mid items b c → LeavesRun m at start (done ++ items) a c
  leaves_then told start mid done items some a b c honest_a honest_b first so_far next =
      sending_then a b c (Inside start (done ++ items)) (Inside mid items) (answers m start first.verdicts)
      (sent_all told a b (answers m start first.verdicts) honest_a honest_b first.sent) so_far next
      (λ image s found. (
        found.0,
        found.1,
        in_run_then m at start done items first.verdicts found.0 s first.judged first.all (subst (λ (n : Standing). InRun m at n items found.0 s) first.end_is found.2),
      ))

  -- in the reader's form
  pub cuts_keep : (start : Standing) (items : List (List ℕ)) (a b : View) → LeavesRun m at start items a b → CutsKeep m at start items a b
  cuts_keep start items a b leaves = leaves_weaker a b (Sending a (Inside start items)) (Sending a (KeptIn m at start items)) leaves
      (λ image q h. (h.0, h.1, h.2, h.3, (h.4.0, h.4.1, is_kept m at start items h.4.0 h.1 h.4.2)))
