-- What a call does to the view of a record.
use Rattle.std.proofs.Common.{◌≡◌, inl, inr, ⊎_elim, ℕ, zero, suc, ◌+◌, ◌-◌, ◌<◌, ◌≤◌, List, [], ◌∷◌, ◌++◌, length, get_or, take, replicate, Bool, true, false, refl, sym, ◌∙◌, ap, subst, arith, length-append}
use Rattle.std.proofs.lemmas.List.{take-take, length-take-le, take_all, take-append-le, append-nil, length-replicate, append_assoc}
use Rattle.std.proofs.Math.Seq.{take-append-add}
use Rattle.edge_board.specs.Board.{View, Within, Nowhere, Keeps, SameTest, Unchanged, Marks, Elapses, Effect, NowSending, Sends, IsSettled}
use Rattle.edge_board.specs.Events.{BoardState, step, run, begun, IsPending, LeftAt, view_of, sends, length-filled}
use Rattle.edge_board.specs.declared.event.BoardEvent.{BoardEvent}
use Rattle.edge_board.specs.declared.event.BoardEvent.TheVariants.{Mark, Fill, Sync, Sent}
use Rattle.edge_board.proofs.Filled.{filled_in, filled_out, filled_from, filled_still, le_or_lt}

-- a record in two parts
pub run-append : (s : BoardState) (es fs : List BoardEvent) → run s (es ++ fs) ≡ run (run s es) fs
run-append s [] fs = refl
run-append s (e ∷ es) fs = run-append (step s e) es fs

-- a moment of the longer record is one of the shorter, or one of the new steps
later_moment : (start : BoardState) (events es : List BoardEvent) (k : ℕ) (image s : List ℕ) → length events < k
    → k ≤ length (events ++ es) → LeftAt (run start (take k (events ++ es))) image s
    → (j : ℕ) × (1 ≤ j) × (j ≤ length es) × LeftAt (run (run start events) (take j es)) image s
later_moment start events es k image s more le out =
    let j = k - length events in
    let is : length events + j ≡ k = omega arith in
    let front : take k (events ++ es) ≡ events ++ take j es =
    ap (λ (n : ℕ). take n (events ++ es)) (sym is) ∙ take-append-add events es j in (
      j,
      omega arith,
      omega (arith, length-append events es),
      subst (λ (st : BoardState). LeftAt st image s)
          (ap (run start) front ∙ run-append start events (take j es)) out,
    )

module _ (blocks : ℕ) (base : List ℕ) (events es : List BoardEvent) (erased erased' faults faults' : ℕ) where
  abbrev before : View
  before = view_of blocks base events erased faults

  abbrev after : View
  after = view_of blocks base (events ++ es) erased' faults'

  abbrev now : BoardState
  now = run (begun base) events

  -- time goes on by the new steps
  pub elapses : (P : List ℕ → List ℕ → Type 0)
      → ((j : ℕ) (image s : List ℕ) → 1 ≤ j → j ≤ length es → LeftAt (run now (take j es)) image s → P image s)
      → ((image s : List ℕ) → P image s → (j : ℕ) × (j ≤ length es) × LeftAt (run now (take j es)) image s)
      → (length es ≡ 0 → Unchanged before after × SameTest before.sent after.sent)
      → Elapses (Unit {0}) before after P
  elapses P inside reached rises = record {
    later = omega (arith, length-append events es);
    nothing_else = λ t image s le left. ⊎_elim
        (λ early. inl (
          left.0,
          left.1,
          early,
          subst (λ (l : List BoardEvent). LeftAt (run (begun base) l) image s)
              (take-append-le left.0 events es early) left.3,
        ))
        (λ late. let m = later_moment (begun base) events es left.0 image s late left.2 left.3 in inr
        (inside m.0 image s m.1 m.2 m.3))
        (le_or_lt left.0 (length events));
    keeps = λ t image s le left. (
      left.0,
      left.1,
      omega (arith, left.2, length-append events es),
      subst (λ (l : List BoardEvent). LeftAt (run (begun base) l) image s)
          (sym (take-append-le left.0 events es left.2)) left.3,
    );
    counts = λ told t image s le p.
        let m = reached image s p in
        let there : take (length events + m.0) (events ++ es) ≡ events ++ take m.0 es =
        take-append-add events es m.0 in (
          length events + m.0,
          omega arith,
          omega (arith, m.1, length-append events es),
          subst (λ (st : BoardState). LeftAt st image s)
              (sym (ap (run (begun base)) there ∙ run-append (begun base) events (take m.0 es))) m.2,
        );
    rises = λ told same. rises (omega (arith, same, length-append events es));
  }

-- nothing was recorded
pub effect_still : (free : ℕ → Type 0) (blocks : ℕ) (base : List ℕ) (events : List BoardEvent)
    (erased erased' faults faults' : ℕ) → Effect (Unit {0}) (Unit {0}) free
    (view_of blocks base events erased faults) (view_of blocks base events erased' faults')
effect_still free blocks base events erased erased' faults faults' = record {
  blocks = refl;
  cells = λ told. record { size = refl; each = λ i out. refl };
  pending = λ told i p. inr p;
  silent = record { forth = λ s h. h; back = λ s h. h };
  time = record {
    later = omega arith;
    nothing_else = λ t image s le left. inl left;
    keeps = λ t image s le left. left;
    counts = λ told t image s le now. (
      length events,
      le,
      omega arith,
      subst (λ (es : List BoardEvent). LeftAt (run (begun base) es) image s)
          (sym (take_all (length events) events (omega arith))) now,
    );
    rises = λ told same. (
      record { cells = refl; forth = λ i p. p; back = λ i p. p },
      record { forth = λ s h. h; back = λ s h. h },
    );
  };
}

-- each of the steps fills some of n places from `at` on
abbrev pub AllFills : ℕ → ℕ → List BoardEvent → Type 0
AllFills at n [] = Unit {0}
AllFills at n (Fill at' n' x ∷ es) = (at ≤ at') × (at' + n' ≤ at + n) × AllFills at n es
AllFills at n (Mark at' n' ∷ es) = ⊥
AllFills at n (Sync ∷ es) = ⊥
AllFills at n (Sent x ∷ es) = ⊥

-- so does each front of them
all_fills-take : (at n j : ℕ) (es : List BoardEvent) → AllFills at n es → AllFills at n (take j es)
all_fills-take at n zero es all = tt
all_fills-take at n (suc j) [] all = tt
all_fills-take at n (suc j) (Fill at' n' x ∷ es) all = (all.0, all.1, all_fills-take at n j es all.2)
all_fills-take at n (suc j) (Mark at' n' ∷ es) all = absurd all
all_fills-take at n (suc j) (Sync ∷ es) all = absurd all
all_fills-take at n (suc j) (Sent x ∷ es) all = absurd all

-- The cells of n places at most have changed.
pub record Filling (at n : ℕ) (s t : BoardState) : Type 0 where
  pub cells : Keeps (Within at n) s.cells t.cells
  pub pending : t.pending ≡ s.pending
  pub sent : t.sent ≡ s.sent

-- fills change no more
pub filling : (at n : ℕ) (s : BoardState) (es : List BoardEvent) → AllFills at n es → Filling at n s (run s es)
filling at n s [] all = record {
  cells = record { size = refl; each = λ i out. refl };
  pending = refl;
  sent = refl;
}
filling at n s (Fill at' n' x ∷ es) all =
    let rest = filling at n (step s (Fill at' n' x)) es all.2 in
    record {
      cells = record {
        size = rest.cells.size ∙ length-filled at' n' x s.cells;
        each = λ i out. rest.cells.each i out
            ∙ filled_out at' n' x 0 s.cells i (λ w. out (omega (arith, w.0, all.0), omega (arith, w.1, all.1)));
      };
      pending = rest.pending;
      sent = rest.sent;
    }
filling at n s (Mark at' n' ∷ es) all = absurd all
filling at n s (Sync ∷ es) all = absurd all
filling at n s (Sent x ∷ es) all = absurd all

-- steps keep the number of flags
pub length-pending : (s : BoardState) (es : List BoardEvent) → length (run s es).pending ≡ length s.pending
length-pending s [] = refl
length-pending s (Mark at n ∷ es) = length-pending (step s (Mark at n)) es ∙ length-filled at n true s.pending
length-pending s (Fill at n x ∷ es) = length-pending (step s (Fill at n x)) es
length-pending s (Sync ∷ es) = length-pending (step s Sync) es ∙ length-replicate (length s.pending) false
length-pending s (Sent x ∷ es) = length-pending (step s (Sent x)) es

-- what is filled where it is pending changes no outcome
outcome_forth : (at n : ℕ) (s t : BoardState) → Filling at n s t → ((i : ℕ) → Within at n i → IsPending s i)
    → (image q : List ℕ) → LeftAt s image q → LeftAt t image q
outcome_forth at n s t f marked image q out = (
  record {
    size = out.0.size ∙ sym f.cells.size;
    each = λ i not_there. out.0.each i (λ p. not_there
        (ap (λ (ps : List Bool). get_or ps i false) f.pending ∙ p))
        ∙ sym (f.cells.each i (λ w. not_there
        (ap (λ (ps : List Bool). get_or ps i false) f.pending ∙ marked i w)));
  },
  out.1 ∙ sym f.sent,
)

outcome_back : (at n : ℕ) (s t : BoardState) → Filling at n s t → ((i : ℕ) → Within at n i → IsPending s i)
    → (image q : List ℕ) → LeftAt t image q → LeftAt s image q
outcome_back at n s t f marked image q out = (
  record {
    size = out.0.size ∙ f.cells.size;
    each = λ i not_there. out.0.each i (λ p. not_there
        (sym (ap (λ (ps : List Bool). get_or ps i false) f.pending) ∙ p))
        ∙ f.cells.each i (λ w. not_there (marked i w));
  },
  out.1 ∙ f.sent,
)

-- a mark, and then fills inside it
module _ (blocks : ℕ) (base : List ℕ) (events fs : List BoardEvent) (erased erased' faults faults' at n : ℕ)
    (all : AllFills at n fs) (inside : at + n ≤ length base) where
  abbrev was : BoardState
  was = run (begun base) events

  abbrev marked : BoardState
  marked = step was (Mark at n)

  abbrev done : BoardState
  done = run marked fs

  is_done : run (begun base) (events ++ Mark at n ∷ fs) ≡ done
  is_done = run-append (begun base) events (Mark at n ∷ fs)

  long : length was.pending ≡ length base
  long = length-pending (begun base) events ∙ length-replicate (length base) false

  is_marked : (i : ℕ) → Within at n i → IsPending marked i
  is_marked i w = filled_in at n true false was.pending i w (omega (arith, w.1, long, inside))

  whole : Filling at n marked done
  whole = filling at n marked fs all

  -- the places have become pending
  pub marks_of : Marks (Within at n) (view_of blocks base events erased faults)
      (view_of blocks base (events ++ Mark at n ∷ fs) erased' faults')
  marks_of = rw is_done (record {
    forth = λ i e. ap (λ (ps : List Bool). get_or ps i false) whole.pending
        ∙ ⊎_elim (is_marked i) (filled_still at n was.pending i) e;
    back = λ i p. filled_from at n was.pending i
        (sym (ap (λ (ps : List Bool). get_or ps i false) whole.pending) ∙ p);
  })

  -- nothing else has changed, and the moments between are like the last
  pub effect_marked : Effect (Unit {0}) (Unit {0}) (Within at n)
      (view_of blocks base events erased faults)
      (view_of blocks base (events ++ Mark at n ∷ fs) erased' faults')
  effect_marked = record {
    blocks = refl;
    cells = λ told. rw is_done whole.cells;
    pending = λ told. marks_of.back;
    silent = record { forth = λ s h. h ∙ sym sent_is; back = λ s h. h ∙ sent_is };
    time = elapses blocks base events (Mark at n ∷ fs) erased erased' faults faults' _
        (λ j image s pos le out. rw is_done (inside_outcome j image s pos out))
        (λ image s now. (
          suc (length fs),
          omega arith,
          rw (take_all (length fs) fs (omega arith)) (rw is_done at now),
        ))
        (λ none. absurd (omega arith));
  }
    where
      sent_is : (run (begun base) (events ++ Mark at n ∷ fs)).sent ≡ was.sent
      sent_is = ap (λ (st : BoardState). st.sent) is_done ∙ whole.sent

      inside_outcome : (j : ℕ) (image s : List ℕ) → 1 ≤ j
          → LeftAt (run was (take j (Mark at n ∷ fs))) image s → LeftAt done image s
      inside_outcome zero image s pos out = absurd (omega arith)
      inside_outcome (suc j) image s pos out =
          outcome_forth at n marked done whole is_marked image s
          (outcome_back at n marked (run marked (take j fs))
          (filling at n marked (take j fs) (all_fills-take at n j fs all)) is_marked image s out)

-- a sync
module _ (blocks : ℕ) (base : List ℕ) (events : List BoardEvent) (erased erased' faults faults' : ℕ) where
  abbrev start : View
  start = view_of blocks base events erased faults

  abbrev synced : View
  synced = view_of blocks base (events ++ Sync ∷ []) erased' faults'

  is_synced : run (begun base) (events ++ Sync ∷ []) ≡ step (run (begun base) events) Sync
  is_synced = run-append (begun base) events (Sync ∷ [])

  none_pending : (n i : ℕ) → get_or (replicate n false) i false ≡ true → ⊥
  none_pending zero i is = cc
  none_pending (suc n) zero is = cc
  none_pending (suc n) (suc i) is = none_pending n i is

  -- nothing is pending
  pub settled : IsSettled synced
  settled i p = none_pending (length (run (begun base) events).pending) i
      (sym (ap (λ (st : BoardState). get_or st.pending i false) is_synced) ∙ p)

  -- the cells are as before
  pub synced_cells : synced.cells ≡ start.cells
  synced_cells = ap (λ (st : BoardState). st.cells) is_synced

  -- nothing else has changed
  pub effect_sync : Effect (Unit {0}) (Unit {0}) Nowhere start synced
  effect_sync = record {
    blocks = refl;
    cells = λ told. rw is_synced (record { size = refl; each = λ i out. refl });
    pending = λ told i p. absurd (settled i p);
    silent = record { forth = λ s h. h ∙ sym sent_is; back = λ s h. h ∙ sent_is };
    time = elapses blocks base events (Sync ∷ []) erased erased' faults faults' _
        (λ j image s pos le out. rw is_synced (last j image s pos out))
        (λ image s now. (1, omega arith, rw is_synced at now))
        (λ none. absurd (omega arith));
  }
    where
      sent_is : (run (begun base) (events ++ Sync ∷ [])).sent ≡ (run (begun base) events).sent
      sent_is = ap (λ (st : BoardState). st.sent) is_synced

      last : (j : ℕ) (image s : List ℕ) → 1 ≤ j
          → LeftAt (run (run (begun base) events) (take j (Sync ∷ []))) image s
          → LeftAt (step (run (begun base) events) Sync) image s
      last zero image s pos out = absurd (omega arith)
      last (suc zero) image s pos out = out
      last (suc (suc j)) image s pos out = out

-- a send
pub sending : (s : BoardState) (xs : List ℕ) → run s (sends xs) ≡ record s { sent = s.sent ++ xs }
sending s [] = ap (λ (l : List ℕ). record s { sent = l }) (sym (append-nil s.sent))
sending s (x ∷ xs) = sending (step s (Sent x)) xs
    ∙ ap (λ (l : List ℕ). record s { sent = l }) (append_assoc s.sent (x ∷ []) xs)

length-sends : (xs : List ℕ) → length (sends xs) ≡ length xs
length-sends [] = refl
length-sends (x ∷ xs) = ap suc (length-sends xs)

take-sends : (j : ℕ) (xs : List ℕ) → take j (sends xs) ≡ sends (take j xs)
take-sends zero xs = refl
take-sends (suc j) [] = refl
take-sends (suc j) (x ∷ xs) = ap (λ l. Sent x ∷ l) (take-sends j xs)

module _ (blocks : ℕ) (base : List ℕ) (events : List BoardEvent) (erased erased' faults faults' : ℕ)
    (bytes : List ℕ) (n : ℕ) (few : n ≤ length bytes) where
  abbrev first : View
  first = view_of blocks base events erased faults

  abbrev sent_view : View
  sent_view = view_of blocks base (events ++ sends (take n bytes)) erased' faults'

  abbrev there : BoardState
  there = run (begun base) events

  is_sent : run (begun base) (events ++ sends (take n bytes))
      ≡ record there { sent = there.sent ++ take n bytes }
  is_sent = run-append (begun base) events (sends (take n bytes)) ∙ sending there (take n bytes)

  so_far : (j : ℕ) → j ≤ n → run there (take j (sends (take n bytes)))
      ≡ record there { sent = there.sent ++ take j bytes }
  so_far j le = ap (run there) (take-sends j (take n bytes) ∙ ap sends (take-take j n bytes le))
      ∙ sending there (take j bytes)

  long_sends : length (sends (take n bytes)) ≡ n
  long_sends = length-sends (take n bytes) ∙ length-take-le n bytes few

  -- the flash stands as before
  pub same_flash : Unchanged first sent_view
  same_flash = record {
    cells = ap (λ (st : BoardState). st.cells) is_sent;
    forth = λ i p. ap (λ (st : BoardState). get_or st.pending i false) is_sent ∙ p;
    back = λ i p. sym (ap (λ (st : BoardState). get_or st.pending i false) is_sent) ∙ p;
  }

  -- the octets were sent, and a moment inside has sent a front of them
  pub sends_taken : Sends (Unit {0}) (Unit {0}) bytes n first sent_view
  sends_taken = record {
    blocks = refl;
    flash = λ told. same_flash;
    taken = few;
    sent = λ p is. ap (λ (l : List ℕ). l ++ take n bytes) is ∙ sym (ap (λ (st : BoardState). st.sent) is_sent);
    time = elapses blocks base events (sends (take n bytes)) erased erased' faults faults'
        (NowSending first sent_view bytes n)
        (λ j image s pos le out.
        let short : j ≤ n = omega (arith, le, long_sends) in
        let o = subst (λ (st : BoardState). LeftAt st image s) (so_far j short) out in
        (kept image o.0, (there.sent, j, refl, short, o.1)))
        (λ image s now. (
          now.1.1,
          omega (arith, now.1.3, long_sends),
          subst (λ (st : BoardState). LeftAt st image s) (sym (so_far now.1.1 now.1.3))
              (back image now.0, now.1.4 ∙ ap (λ (l : List ℕ). l ++ take now.1.1 bytes) now.1.2),
        ))
        (λ none. (same_flash, nothing_sent (omega (arith, none, long_sends))));
  }
    where
      kept : (image : List ℕ) → Keeps (IsPending there) there.cells image
          → Keeps sent_view.pending sent_view.cells image
      kept image k = rw is_sent k

      back : (image : List ℕ) → Keeps sent_view.pending sent_view.cells image
          → Keeps (IsPending there) there.cells image
      back image k = rw is_sent at k

      nothing_sent : n ≡ 0 → SameTest first.sent sent_view.sent
      nothing_sent none =
          let same : (run (begun base) (events ++ sends (take n bytes))).sent ≡ there.sent =
          ap (λ (st : BoardState). st.sent) is_sent ∙ ap (λ (k : ℕ). there.sent ++ take k bytes) none
          ∙ append-nil there.sent in
          record { forth = λ s h. h ∙ sym same; back = λ s h. h ∙ same }
