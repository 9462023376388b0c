-- What each call makes of a board in memory.
use Rattle.std.proofs.Common.{◌≡◌, ◌⊎◌, inl, inr, ⊎_elim, ℕ, zero, suc, ◌+◌, ◌*◌, ◌<◌, ◌≤◌, List, [], ◌∷◌, ◌++◌, length, get_or, take, drop, replicate, Bool, true, false, cond, Result, Ok, Err, IfOk, refl, sym, ◌∙◌, ap, subst, arith}
use Rattle.std.proofs.lemmas.List.{length-replicate, get_or_past, ext_get_or}
use Rattle.edge_board.specs.Board.{View, Within, Nowhere, Effect, Marks, IsSettled, Sends, cell}
use Rattle.edge_board.specs.Calls.{ReadsAt, ErasesBlock, ProgramsAt, BlanksAt, Syncs, SendsSome}
use Rattle.edge_board.specs.Events.{BoardState, step, run, begun, view_of, filled, fills, written, sends, length-filled, length-run}
use Rattle.edge_board.specs.MemBoard.{mem_view, Begins}
use Rattle.edge_board.specs.Picks.{picked_octet, IsPicked, IsPickedBy}
use Rattle.edge_board.specs.declared.event.BoardEvent.{BoardEvent}
use Rattle.edge_board.specs.declared.event.BoardEvent.TheVariants.{Mark, Fill, Sync, Sent}
use Rattle.edge_board.specs.declared.mem_board.MemBoard.{MemBoard}
use Rattle.edge_board.specs.declared.pick.Pick.{Pick}
use Rattle.edge_board.specs.declared.pick.Pick.TheVariants.{Keep}
use Rattle.edge_board.proofs.Filled.{filled_in, written_in, le_or_lt}
use Rattle.edge_board.proofs.Replays.{run-append, length-pending, sending, AllFills, effect_still, effect_marked, marks_of, effect_sync, settled, sends_taken}

length-synced : (s : BoardState) (es : List BoardEvent) → length s.synced ≡ length s.cells
    → length (run s es).synced ≡ length s.cells
length-synced s [] same = same
length-synced s (Mark at n ∷ es) same = length-synced (step s (Mark at n)) es same
length-synced s (Fill at n x ∷ es) same =
    length-synced (step s (Fill at n x)) es (same ∙ sym (length-filled at n x s.cells))
    ∙ length-filled at n x s.cells
length-synced s (Sync ∷ es) same = length-synced (step s Sync) es refl
length-synced s (Sent x ∷ es) same = length-synced (step s (Sent x)) es same

-- the fills of a program write its octets
pub run_fills : (s : BoardState) (at : ℕ) (bytes : List ℕ)
    → run s (fills at bytes) ≡ record s { cells = written at bytes s.cells }
run_fills s at [] = refl
run_fills s at (x ∷ xs) = run_fills (step s (Fill at 1 x)) (at + 1) xs

-- they lie in the program's range
pub all_fills : (at n at' : ℕ) (bytes : List ℕ) → at ≤ at' → at' + length bytes ≤ at + n
    → AllFills at n (fills at' bytes)
all_fills at n at' [] from below = tt
all_fills at n at' (x ∷ xs) from below =
    (from, omega arith, all_fills at n (at' + 1) xs (omega arith) (omega arith))

-- what stands on a board
abbrev stands_as : List ℕ → List Bool → List ℕ → List ℕ → BoardState
stands_as cells pending synced sent =
    record { cells = cells; pending = pending; synced = synced; sent = sent }

module _ (b : MemBoard) where
  abbrev start : BoardState
  start = begun b.base.items

  pub long_cells : length b.cells.items ≡ 4096 * b.blocks
  long_cells = sym (ap (λ (st : BoardState). length st.cells) b.stands)
      ∙ length-run start b.events.items ∙ b.sized

  pub long_pending : length b.pending.items ≡ 4096 * b.blocks
  long_pending = sym (ap (λ (st : BoardState). length st.pending) b.stands)
      ∙ length-pending start b.events.items ∙ length-replicate (length b.base.items) false ∙ b.sized

  pub long_synced : length b.synced.items ≡ 4096 * b.blocks
  long_synced = sym (ap (λ (st : BoardState). length st.synced) b.stands)
      ∙ length-synced start b.events.items refl ∙ b.sized

  -- what is read stands there
  pub cells_are : (mem_view b).cells ≡ b.cells.items
  cells_are = ap (λ (st : BoardState). st.cells) b.stands

  -- more steps
  goes_to : (es later : List BoardEvent) (new : BoardState) → later ≡ b.events.items ++ es
      → run (stands_as b.cells.items b.pending.items b.synced.items b.sent.items) es ≡ new
      → run start later ≡ new
  goes_to es later new is there =
      ap (run start) is ∙ run-append start b.events.items es
      ∙ ap (λ (st : BoardState). run st es) b.stands ∙ there

  -- a call that records nothing
  pub still : (free : ℕ → Type 0) (faults : ℕ)
      → Effect (Unit {0}) (Unit {0}) free (mem_view b)
      (view_of b.blocks b.base.items b.events.items b.erased faults)
  still free faults = effect_still free b.blocks b.base.items b.events.items b.erased b.erased
      b.schedule.faults faults

  -- places that are filled
  module _ (at n x : ℕ) (later : List BoardEvent) (pending : List Bool) (cells : List ℕ)
      (is : later ≡ b.events.items ++ Mark at n ∷ Fill at n x ∷ [])
      (pending_is : pending ≡ filled at n true b.pending.items)
      (cells_is : cells ≡ filled at n x b.cells.items) where
    pub filled_stands : run start later ≡ stands_as cells pending b.synced.items b.sent.items
    filled_stands = goes_to (Mark at n ∷ Fill at n x ∷ []) later
        (stands_as cells pending b.synced.items b.sent.items) is
        (let p = sym pending_is in let c = sym cells_is in
        λ i. stands_as (c i) (p i) b.synced.items b.sent.items)

    module _ (fits : at + n ≤ 4096 * b.blocks) (erased faults : ℕ) where
      abbrev after_fill : View
      after_fill = view_of b.blocks b.base.items later erased faults

      pub filled_reads : (i : ℕ) → Within at n i → cell after_fill.cells i ≡ x
      filled_reads i within =
          ap (λ (st : BoardState). cell st.cells i) filled_stands
          ∙ ap (λ (l : List ℕ). cell l i) cells_is
          ∙ filled_in at n x 0 b.cells.items i within (omega (arith, within.1, long_cells, fits))

      pub filled_effect : Effect (Unit {0}) (Unit {0}) (Within at n) (mem_view b) after_fill
      filled_effect =
          subst (λ (l : List BoardEvent). Effect (Unit {0}) (Unit {0}) (Within at n) (mem_view b)
          (view_of b.blocks b.base.items l erased faults)) (sym is)
          (effect_marked b.blocks b.base.items b.events.items (Fill at n x ∷ []) b.erased erased
          b.schedule.faults faults at n (omega arith, omega arith, tt)
          (omega (arith, fits, b.sized)))

      pub filled_marks : Marks (Within at n) (mem_view b) after_fill
      filled_marks =
          subst (λ (l : List BoardEvent). Marks (Within at n) (mem_view b)
          (view_of b.blocks b.base.items l erased faults)) (sym is)
          (marks_of b.blocks b.base.items b.events.items (Fill at n x ∷ []) b.erased erased
          b.schedule.faults faults at n (omega arith, omega arith, tt)
          (omega (arith, fits, b.sized)))

  -- a program
  module _ (at : ℕ) (bytes : List ℕ) (later : List BoardEvent) (pending : List Bool) (cells : List ℕ)
      (is : later ≡ b.events.items ++ Mark at (length bytes) ∷ fills at bytes)
      (pending_is : pending ≡ filled at (length bytes) true b.pending.items)
      (cells_is : cells ≡ written at bytes b.cells.items) where
    pub written_stands : run start later ≡ stands_as cells pending b.synced.items b.sent.items
    written_stands = goes_to (Mark at (length bytes) ∷ fills at bytes) later
        (stands_as cells pending b.synced.items b.sent.items) is
        (run_fills (stands_as b.cells.items (filled at (length bytes) true b.pending.items)
        b.synced.items b.sent.items) at bytes
        ∙ (let p = sym pending_is in let c = sym cells_is in
        λ i. stands_as (c i) (p i) b.synced.items b.sent.items))

    pub program_ok : {T E : Type 0} (v : T) (faults : ℕ) → at + length bytes ≤ 4096 * b.blocks
        → faults ≡ b.schedule.faults
        → ProgramsAt {T = T} {E = E} (Unit {0}) (Unit {0}) at bytes (mem_view b)
        (view_of b.blocks b.base.items later b.erased faults) (Ok v)
    program_ok {T} {E} v faults fits le =
        let room : at + length bytes ≤ length b.base.items = omega (arith, fits, b.sized) in
        let inside = all_fills at (length bytes) at bytes (omega arith) (omega arith) in
        record {
          effect = subst (λ (l : List BoardEvent). Effect (Unit {0}) (Unit {0})
              (Within at (length bytes)) (mem_view b)
              (view_of b.blocks b.base.items l b.erased faults)) (sym is)
              (effect_marked b.blocks b.base.items b.events.items (fills at bytes) b.erased
              b.erased b.schedule.faults faults at (length bytes) inside room);
          reads = λ told i lt blank.
              ap (λ (st : BoardState). cell st.cells (at + i)) written_stands
              ∙ ap (λ (l : List ℕ). cell l (at + i)) cells_is
              ∙ written_in at bytes b.cells.items i lt (omega (arith, long_cells, fits));
          ok = λ told. subst (λ (l : List BoardEvent). Marks (Within at (length bytes)) (mem_view b)
              (view_of b.blocks b.base.items l b.erased faults)) (sym is)
              (marks_of b.blocks b.base.items b.events.items (fills at bytes) b.erased b.erased
              b.schedule.faults faults at (length bytes) inside room);
          failed = λ told. tt;
          erased = refl;
          cause = record { later = omega (arith, le); calm = le; failed = tt };
        }

  -- a sync
  module _ (later : List BoardEvent) (pending : List Bool) (synced : List ℕ)
      (is : later ≡ b.events.items ++ Sync ∷ [])
      (pending_is : pending ≡ replicate (length b.pending.items) false)
      (synced_is : synced ≡ b.cells.items) where
    pub synced_stands : run start later ≡ stands_as b.cells.items pending synced b.sent.items
    synced_stands = goes_to (Sync ∷ []) later (stands_as b.cells.items pending synced b.sent.items) is
        (let p = sym pending_is in let s = sym synced_is in
        λ i. stands_as b.cells.items (p i) (s i) b.sent.items)

    pub sync_ok : {T E : Type 0} (v : T) (faults : ℕ) → faults ≡ b.schedule.faults
        → Syncs {T = T} {E = E} (Unit {0}) (Unit {0}) (mem_view b)
        (view_of b.blocks b.base.items later b.erased faults) (Ok v)
    sync_ok {T} {E} v faults le = record {
      effect = subst (λ (l : List BoardEvent). Effect (Unit {0}) (Unit {0}) Nowhere (mem_view b)
          (view_of b.blocks b.base.items l b.erased faults)) (sym is)
          (effect_sync b.blocks b.base.items b.events.items b.erased b.erased b.schedule.faults
          faults);
      cells = λ told. ap (λ (st : BoardState). st.cells) synced_stands ∙ sym cells_are;
      settled = λ told. subst (λ (l : List BoardEvent).
          IsSettled (view_of b.blocks b.base.items l b.erased faults)) (sym is)
          (settled b.blocks b.base.items b.events.items b.erased b.erased b.schedule.faults faults);
      failed = λ told. tt;
      erased = refl;
      cause = record { later = omega (arith, le); calm = le; failed = tt };
    }

  -- a send
  module _ (bytes : List ℕ) (n : ℕ) (few : n ≤ length bytes) (later : List BoardEvent)
      (sent : List ℕ) (is : later ≡ b.events.items ++ sends (take n bytes))
      (sent_is : sent ≡ b.sent.items ++ take n bytes) where
    pub sent_stands : run start later
        ≡ stands_as b.cells.items b.pending.items b.synced.items sent
    sent_stands = goes_to (sends (take n bytes)) later
        (stands_as b.cells.items b.pending.items b.synced.items sent) is
        (sending (stands_as b.cells.items b.pending.items b.synced.items b.sent.items) (take n bytes)
        ∙ (let s = sym sent_is in
        λ i. stands_as b.cells.items b.pending.items b.synced.items (s i)))

    pub send_ok : {E : Type 0} (faults : ℕ) → (0 < length bytes → 0 < n)
        → faults ≡ b.schedule.faults
        → SendsSome {E = E} (Unit {0}) (Unit {0}) bytes (mem_view b)
        (view_of b.blocks b.base.items later b.erased faults) (Ok n)
    send_ok {E} faults some le =
        let after : List BoardEvent → View =
        λ l. view_of b.blocks b.base.items l b.erased faults in
        let sends_all : Sends (Unit {0}) (Unit {0}) bytes n (mem_view b) (after later) =
        subst (λ (l : List BoardEvent). Sends (Unit {0}) (Unit {0}) bytes n (mem_view b) (after l))
        (sym is) (sends_taken b.blocks b.base.items b.events.items b.erased b.erased
        b.schedule.faults faults bytes n few) in
        record {
          ok = sends_all;
          some = some;
          failed = tt;
          same = sends_all.flash;
          erased = refl;
          cause = record { later = omega (arith, le); calm = le; failed = tt };
        }

-- an erase
pub erase_ok : {T E : Type 0} (b : MemBoard) (v : T) (block : ℕ) (later : List BoardEvent)
    (pending : List Bool) (cells : List ℕ) (faults : ℕ)
    → later ≡ b.events.items ++ Mark (4096 * block) 4096 ∷ Fill (4096 * block) 4096 255 ∷ []
    → pending ≡ filled (4096 * block) 4096 true b.pending.items
    → cells ≡ filled (4096 * block) 4096 255 b.cells.items → block < b.blocks
    → faults ≡ b.schedule.faults
    → ErasesBlock {T = T} {E = E} (Unit {0}) (Unit {0}) block (mem_view b)
    (view_of b.blocks b.base.items later (b.erased + 1) faults) (Ok v)
erase_ok {T} {E} b v block later pending cells faults is pending_is cells_is inside le =
    let fits : 4096 * block + 4096 ≤ 4096 * b.blocks = omega (arith, inside) in
    record {
      effect = filled_effect b (4096 * block) 4096 255 later pending cells is pending_is cells_is
          fits (b.erased + 1) faults;
      reads = λ told. filled_reads b (4096 * block) 4096 255 later pending cells is pending_is
          cells_is fits (b.erased + 1) faults;
      ok = λ told. filled_marks b (4096 * block) 4096 255 later pending cells is pending_is
          cells_is fits (b.erased + 1) faults;
      failed = λ told. tt;
      at_least = omega arith;
      at_most = omega arith;
      erased = λ told. refl;
      cause = record { later = omega (arith, le); calm = le; failed = tt };
    }

-- a blank
pub blank_ok : {T E : Type 0} (b : MemBoard) (v : T) (at : ℕ) (later : List BoardEvent)
    (pending : List Bool) (cells : List ℕ) (faults : ℕ)
    → later ≡ b.events.items ++ Mark at 1 ∷ Fill at 1 0 ∷ []
    → pending ≡ filled at 1 true b.pending.items → cells ≡ filled at 1 0 b.cells.items
    → at < 4096 * b.blocks → faults ≡ b.schedule.faults
    → BlanksAt {T = T} {E = E} (Unit {0}) (Unit {0}) at (mem_view b)
    (view_of b.blocks b.base.items later b.erased faults) (Ok v)
blank_ok {T} {E} b v at later pending cells faults is pending_is cells_is inside le =
    let fits : at + 1 ≤ 4096 * b.blocks = omega (arith, inside) in
    record {
      effect = filled_effect b at 1 0 later pending cells is pending_is cells_is fits b.erased
          faults;
      reads = λ told. filled_reads b at 1 0 later pending cells is pending_is cells_is fits
          b.erased faults at (omega arith, omega arith);
      ok = λ told. filled_marks b at 1 0 later pending cells is pending_is cells_is fits b.erased
          faults;
      failed = λ told. tt;
      erased = refl;
      cause = record { later = omega (arith, le); calm = le; failed = tt };
    }

-- a read
pub read_ok : {T E : Type 0} (b : MemBoard) (v : T) (at : ℕ) (into : List ℕ) (faults : ℕ)
    → into ≡ take (length into) (drop at b.cells.items) → faults ≡ b.schedule.faults
    → ReadsAt {T = T} {E = E} (Unit {0}) (Unit {0}) at into (mem_view b)
    (view_of b.blocks b.base.items b.events.items b.erased faults) (Ok v)
read_ok {T} {E} b v at into faults is le = record {
  octets = λ told. is ∙ ap (λ (l : List ℕ). take (length into) (drop at l)) (sym (cells_are b));
  effect = still b Nowhere faults;
  same = λ told. record { cells = refl; forth = λ i p. p; back = λ i p. p };
  erased = refl;
  cause = record { later = omega (arith, le); calm = le; failed = tt };
}

bool_cases : (p : Bool) → (p ≡ true) ⊎ (p ≡ false)
bool_cases true = inl refl
bool_cases false = inr refl

-- what a power cut leaves is picked, position by position
pub is_picked : (cells : List ℕ) (pending : List Bool) (synced image : List ℕ) (pick : Pick)
    → IsPickedBy pick pending cells synced image
    → IsPicked pick (λ i. get_or pending i false ≡ true) cells synced image
is_picked cells pending synced image pick by = record {
  others = record {
    size = by.size;
    each = λ i out. ⊎_elim
        (λ past. get_or_past image i 0 (omega (arith, past, by.size))
        ∙ sym (get_or_past cells i 0 past))
        (λ lt. by.each i lt
        ∙ ap (λ (p : Bool). cond p (picked_octet pick (get_or cells i 0) (get_or synced i 0))
        (get_or cells i 0))
        (⊎_elim (λ yes. absurd (out yes)) (λ no. no) (bool_cases (get_or pending i false))))
        (le_or_lt (length cells) i);
  };
  each = λ i lt yes. by.each i lt
      ∙ ap (λ (p : Bool). cond p (picked_octet pick (get_or cells i 0) (get_or synced i 0))
      (get_or cells i 0)) yes;
}

either_same : (p : Bool) (x : ℕ) → cond p x x ≡ x
either_same true x = refl
either_same false x = refl

-- what is kept is as it reads
pub kept_same : (cells : List ℕ) (pending : List Bool) (synced image : List ℕ)
    → IsPickedBy Keep pending cells synced image → image ≡ cells
kept_same cells pending synced image by = ext_get_or 0 image cells by.size
    (λ i lt. by.each i (omega (arith, lt, by.size)) ∙ either_same (get_or pending i false) (get_or cells i 0))

-- from one fact of what is Ok to another
pub if_ok_map : {T E : Type 0} {P Q : T → Type 0} (r : Result T E) → IfOk r P
    → ((x : T) → P x → Q x) → IfOk r Q
if_ok_map (Ok x) p f = f x p
if_ok_map (Err e) p f = tt

pub none_pending : (n i : ℕ) → get_or (replicate n false) i false ≡ true → ⊥
none_pending zero i is = cc
none_pending (suc n) zero is = cc
none_pending (suc n) (suc i) is = none_pending n i is

-- a board at its start
pub board_begins : (b : MemBoard) (count : ℕ) (cells : List ℕ) → b.blocks ≡ count
    → b.base.items ≡ cells → b.events.items ≡ [] → b.erased ≡ 0 → b.schedule.faults ≡ 0
    → Begins count cells b
board_begins b count cells blocks base events erased faults =
    let now : run (begun b.base.items) b.events.items ≡ begun cells =
    ap (λ (es : List BoardEvent). run (begun b.base.items) es) events ∙ ap begun base in
    record {
      blocks = blocks;
      cells = ap (λ (st : BoardState). st.cells) now;
      synced = ap (λ (st : BoardState). st.synced) now;
      settled = λ i p. none_pending (length cells) i
          (sym (ap (λ (st : BoardState). get_or st.pending i false) now) ∙ p);
      sent = sym (ap (λ (st : BoardState). st.sent) now);
      erased = erased;
      faults = faults;
    }
