-- What each call makes of the board that never fails.
use Rattle.std.proofs.Common.{◌≡◌, inr, ⊎_elim, ℕ, ◌+◌, ◌*◌, ◌<◌, ◌≤◌, List, ◌++◌, length, get_or, take, drop, replicate, Bool, true, false, Ok, refl, sym, ◌∙◌, ap, subst, arith}
use Rattle.std.proofs.lemmas.List.{take_all}
use Rattle.edge_board.specs.Board.{View, Within, Keeps, Effect, Elapses, Marks, cell}
use Rattle.edge_board.specs.Calls.{ReadsAt, ErasesBlock, ProgramsAt, BlanksAt, Syncs, SendsSome}
use Rattle.edge_board.specs.Events.{BoardState, begun, filled, fills, written, length-filled}
use Rattle.edge_board.specs.SureBoard.{sure_view}
use Rattle.edge_board.specs.SureViews.{cells_view}
use Rattle.edge_board.specs.declared.sure_board.SureBoard.{SureBoard}
use Rattle.edge_board.proofs.Filled.{filled_in, filled_out, filled_from, filled_still, written_in}
use Rattle.edge_board.proofs.MemCalls.{run_fills, all_fills, none_pending}
use Rattle.edge_board.proofs.Replays.{filling}

keeps_filled : (at n x : ℕ) (cells : List ℕ) → Keeps (Within at n) cells (filled at n x cells)
keeps_filled at n x cells = record {
  size = length-filled at n x cells;
  each = λ i out. filled_out at n x 0 cells i out;
}

keeps_written : (at : ℕ) (bytes cells : List ℕ)
    → Keeps (Within at (length bytes)) cells (written at bytes cells)
keeps_written at bytes cells =
    let inside = all_fills at (length bytes) at bytes (omega arith) (omega arith) in
    subst (λ (st : BoardState). Keeps (Within at (length bytes)) cells st.cells)
    (run_fills (begun cells) at bytes)
    (filling at (length bytes) (begun cells) (fills at bytes) inside).cells

-- no moments are told
no_time : (old new : View) (P : List ℕ → List ℕ → Type 0) → old.clock ≤ new.clock
    → ((t : ℕ) (image s : List ℕ) → new.might t image s → ⊥)
    → ((t : ℕ) (image s : List ℕ) → old.might t image s → ⊥) → Elapses ⊥ old new P
no_time old new P later none_new none_old = record {
  later = later;
  nothing_else = λ t image s le left. absurd (none_new t image s left);
  keeps = λ t image s le left. absurd (none_old t image s left);
  counts = λ told. absurd told;
  rises = λ told. absurd told;
}

module _ (b : SureBoard) where
  -- the board with other cells and flags
  abbrev pub with : List ℕ → List Bool → View
  with cells pending = cells_view b.blocks cells pending (sure_view b).sent

  untimed : (P : List ℕ → List ℕ → Type 0) (cells : List ℕ) (pending : List Bool)
      → Elapses ⊥ (sure_view b) (with cells pending) P
  untimed P cells pending = no_time (sure_view b) (with cells pending) P (omega arith)
      (λ t image s left. left) (λ t image s left. left)

  module _ (at n : ℕ) (cells : List ℕ) (pending : List Bool)
      (pending_is : pending ≡ filled at n true b.pending.items) where
    becomes : (i : ℕ) → get_or pending i false ≡ get_or (filled at n true b.pending.items) i false
    becomes i = ap (λ (ps : List Bool). get_or ps i false) pending_is

    pub sure_marks : at + n ≤ 4096 * b.blocks → Marks (Within at n) (sure_view b) (with cells pending)
    sure_marks fits = record {
      forth = λ i e. becomes i ∙ ⊎_elim
          (λ w. filled_in at n true false b.pending.items i w (omega (arith, w.1, fits, b.flags)))
          (filled_still at n b.pending.items i) e;
      back = λ i p. filled_from at n b.pending.items i (sym (becomes i) ∙ p);
    }

    pub sure_effect : Keeps (Within at n) b.cells.items cells
        → Effect (Unit {0}) ⊥ (Within at n) (sure_view b) (with cells pending)
    sure_effect keeps = record {
      blocks = refl;
      cells = λ told. keeps;
      pending = λ told i p. filled_from at n b.pending.items i (sym (becomes i) ∙ p);
      silent = record { forth = λ s h. h; back = λ s h. h };
      time = untimed _ cells pending;
    }

    pub long_flags : length pending ≡ 4096 * b.blocks
    long_flags = ap length pending_is ∙ length-filled at n true b.pending.items ∙ b.flags

    module _ (x : ℕ) (cells_is : cells ≡ filled at n x b.cells.items) where
      pub keeps_others : Keeps (Within at n) b.cells.items cells
      keeps_others = subst (λ (l : List ℕ). Keeps (Within at n) b.cells.items l) (sym cells_is)
          (keeps_filled at n x b.cells.items)

      pub long_cells : length cells ≡ 4096 * b.blocks
      long_cells = keeps_others.size ∙ b.sized

      pub reads_filled : at + n ≤ 4096 * b.blocks → (i : ℕ) → Within at n i → cell cells i ≡ x
      reads_filled fits i within = ap (λ (l : List ℕ). cell l i) cells_is
          ∙ filled_in at n x 0 b.cells.items i within (omega (arith, within.1, fits, b.sized))

  -- a read
  pub sure_read : {T E : Type 0} (v : T) (at : ℕ) (into : List ℕ)
      → into ≡ take (length into) (drop at b.cells.items)
      → ReadsAt {T = T} {E = E} (Unit {0}) ⊥ at into (sure_view b) (sure_view b) (Ok v)
  sure_read {T} {E} v at into is = record {
    octets = λ told. is;
    effect = record {
      blocks = refl;
      cells = λ told. record { size = refl; each = λ i out. refl };
      pending = λ told i p. inr p;
      silent = record { forth = λ s h. h; back = λ s h. h };
      time = untimed _ b.cells.items b.pending.items;
    };
    same = λ told. record { cells = refl; forth = λ i p. p; back = λ i p. p };
    erased = refl;
    cause = record { later = omega arith; calm = refl; failed = tt };
  }

  -- an erase
  pub sure_erase : {T E : Type 0} (v : T) (block : ℕ) (cells : List ℕ) (pending : List Bool)
      → pending ≡ filled (4096 * block) 4096 true b.pending.items
      → cells ≡ filled (4096 * block) 4096 255 b.cells.items → block < b.blocks
      → ErasesBlock {T = T} {E = E} (Unit {0}) ⊥ block (sure_view b) (with cells pending) (Ok v)
  sure_erase {T} {E} v block cells pending pending_is cells_is inside =
      let fits : 4096 * block + 4096 ≤ 4096 * b.blocks = omega (arith, inside) in
      let at : ℕ = 4096 * block in
      record {
        effect = sure_effect at 4096 cells pending pending_is
            (keeps_others at 4096 cells pending pending_is 255 cells_is);
        reads = λ told. reads_filled at 4096 cells pending pending_is 255 cells_is fits;
        ok = λ told. sure_marks at 4096 cells pending pending_is fits;
        failed = λ told. tt;
        at_least = omega arith;
        at_most = omega arith;
        erased = λ told. absurd told;
        cause = record { later = omega arith; calm = refl; failed = tt };
      }

  -- a blank
  pub sure_blank : {T E : Type 0} (v : T) (at : ℕ) (cells : List ℕ) (pending : List Bool)
      → pending ≡ filled at 1 true b.pending.items → cells ≡ filled at 1 0 b.cells.items
      → at < 4096 * b.blocks
      → BlanksAt {T = T} {E = E} (Unit {0}) ⊥ at (sure_view b) (with cells pending) (Ok v)
  sure_blank {T} {E} v at cells pending pending_is cells_is inside =
      let fits : at + 1 ≤ 4096 * b.blocks = omega (arith, inside) in
      record {
        effect = sure_effect at 1 cells pending pending_is
            (keeps_others at 1 cells pending pending_is 0 cells_is);
        reads = λ told. reads_filled at 1 cells pending pending_is 0 cells_is fits at
            (omega arith, omega arith);
        ok = λ told. sure_marks at 1 cells pending pending_is fits;
        failed = λ told. tt;
        erased = refl;
        cause = record { later = omega arith; calm = refl; failed = tt };
      }

  -- a program
  pub keeps_program : (at : ℕ) (bytes cells : List ℕ) → cells ≡ written at bytes b.cells.items
      → Keeps (Within at (length bytes)) b.cells.items cells
  keeps_program at bytes cells is =
      subst (λ (l : List ℕ). Keeps (Within at (length bytes)) b.cells.items l) (sym is)
      (keeps_written at bytes b.cells.items)

  pub sure_program : {T E : Type 0} (v : T) (at : ℕ) (bytes cells : List ℕ) (pending : List Bool)
      → pending ≡ filled at (length bytes) true b.pending.items
      → cells ≡ written at bytes b.cells.items → at + length bytes ≤ 4096 * b.blocks
      → ProgramsAt {T = T} {E = E} (Unit {0}) ⊥ at bytes (sure_view b) (with cells pending) (Ok v)
  sure_program {T} {E} v at bytes cells pending pending_is cells_is fits = record {
    effect = sure_effect at (length bytes) cells pending pending_is
        (keeps_program at bytes cells cells_is);
    reads = λ told i lt blank. ap (λ (l : List ℕ). cell l (at + i)) cells_is
        ∙ written_in at bytes b.cells.items i lt (omega (arith, fits, b.sized));
    ok = λ told. sure_marks at (length bytes) cells pending pending_is fits;
    failed = λ told. tt;
    erased = refl;
    cause = record { later = omega arith; calm = refl; failed = tt };
  }

  -- a sync
  pub sure_sync : {T E : Type 0} (v : T) (pending : List Bool)
      → pending ≡ replicate (length b.pending.items) false
      → Syncs {T = T} {E = E} (Unit {0}) ⊥ (sure_view b) (with b.cells.items pending) (Ok v)
  sure_sync {T} {E} v pending is =
      let none : (i : ℕ) → get_or pending i false ≡ true → ⊥ =
      λ i p. none_pending (length b.pending.items) i
      (sym (ap (λ (ps : List Bool). get_or ps i false) is) ∙ p) in
      record {
        effect = record {
          blocks = refl;
          cells = λ told. record { size = refl; each = λ i out. refl };
          pending = λ told i p. absurd (none i p);
          silent = record { forth = λ s h. h; back = λ s h. h };
          time = untimed _ b.cells.items pending;
        };
        cells = λ told. refl;
        settled = λ told. none;
        failed = λ told. tt;
        erased = refl;
        cause = record { later = omega arith; calm = refl; failed = tt };
      }

  -- a send of all octets
  pub sure_send : {E : Type 0} (bytes : List ℕ) (sent : List ℕ → Type 0)
      → ((m : List ℕ) → (sure_view b).sent m → sent (m ++ bytes))
      → SendsSome {E = E} (Unit {0}) ⊥ bytes (sure_view b)
      (cells_view b.blocks b.cells.items b.pending.items sent) (Ok (length bytes))
  sure_send {E} bytes sent more =
      let new : View = cells_view b.blocks b.cells.items b.pending.items sent in
      record {
        ok = record {
          blocks = refl;
          flash = λ told. record { cells = refl; forth = λ i p. p; back = λ i p. p };
          taken = omega arith;
          sent = λ p h. subst (λ (l : List ℕ). sent (p ++ l))
              (sym (take_all (length bytes) bytes (omega arith))) (more p h);
          time = no_time (sure_view b) new _ (omega arith) (λ t image s left. left)
              (λ t image s left. left);
        };
        some = λ any. any;
        failed = tt;
        same = λ told. record { cells = refl; forth = λ i p. p; back = λ i p. p };
        erased = refl;
        cause = record { later = omega arith; calm = refl; failed = tt };
      }
