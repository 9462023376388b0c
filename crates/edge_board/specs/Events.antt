-- The record that a board in memory keeps of its calls, step by step, and what it stands for.
use Rattle.std.specs.Prelude.{◌≡◌, ℕ, zero, suc, ◌+◌, ◌*◌, ◌≤◌, List, [], ◌∷◌, ◌++◌, length, take, replicate, Bool, true, false}
use Rattle.std.proofs.Common.{refl, sym, ◌∙◌, ap, subst, arith, get_or}
use Rattle.std.proofs.lemmas.List.{take_all}
use Rattle.edge_board.specs.Board.{View, Keeps, IsHonest}
use Rattle.edge_board.specs.declared.event.BoardEvent.{BoardEvent}
use Rattle.edge_board.specs.declared.event.BoardEvent.TheVariants.{Mark, Fill, Sync, Sent}

-- What a board holds at a moment.
pub record BoardState : Type 0 where
  -- what a read gives
  pub cells : List ℕ
  -- whether a position may differ after a crash
  pub pending : List Bool
  -- the cells at the last sync, or at the start
  pub synced : List ℕ
  -- what was sent
  pub sent : List ℕ

-- n places from `at` on hold x, as far as there are so many
abbrev pub filled : {A : Type 0} → ℕ → ℕ → A → List A → List A
filled at n x [] = []
filled zero zero x (y ∷ ys) = y ∷ ys
filled zero (suc n) x (y ∷ ys) = x ∷ filled zero n x ys
filled (suc at) n x (y ∷ ys) = y ∷ filled at n x ys

-- the places from `at` on hold these, as far as there are so many
abbrev pub written : ℕ → List ℕ → List ℕ → List ℕ
written at [] ys = ys
written at (x ∷ xs) ys = written (at + 1) xs (filled at 1 x ys)

-- one step
abbrev pub step : BoardState → BoardEvent → BoardState
step s (Mark at n) = record s { pending = filled at n true s.pending }
step s (Fill at n x) = record s { cells = filled at n x s.cells }
step s Sync = record s { pending = replicate (length s.pending) false; synced = s.cells }
step s (Sent x) = record s { sent = s.sent ++ x ∷ [] }

-- all steps of a record
abbrev pub run : BoardState → List BoardEvent → BoardState
run s [] = s
run s (e ∷ es) = run (step s e) es

-- at the start nothing is pending, and nothing was sent
abbrev pub begun : List ℕ → BoardState
begun cells = record {
  cells = cells;
  pending = replicate (length cells) false;
  synced = cells;
  sent = [];
}

-- A position may differ after a crash.
abbrev pub IsPending : BoardState → ℕ → Type 0
IsPending s i = get_or s.pending i false ≡ true

-- A crash in that state leaves this image, with exactly these octets sent.
abbrev pub LeftAt : BoardState → List ℕ → List ℕ → Type 0
LeftAt s image sent = Keeps (IsPending s) s.cells image × (sent ≡ s.sent)

-- A crash in one of the states since the t-th leaves them.
abbrev pub LeftSince : BoardState → List BoardEvent → ℕ → List ℕ → List ℕ → Type 0
LeftSince start events t image sent =
    (k : ℕ) × (t ≤ k) × (k ≤ length events) × LeftAt (run start (take k events)) image sent

-- what a board means that began with these cells, and whose record has these steps: each of them
-- is a moment
abbrev pub view_of : ℕ → List ℕ → List BoardEvent → ℕ → ℕ → View
view_of blocks base events erased faults =
    let now = run (begun base) events in
    record {
      blocks = blocks;
      cells = now.cells;
      pending = IsPending now;
      sent = λ s. s ≡ now.sent;
      clock = length events;
      erased = erased;
      faults = faults;
      might = LeftSince (begun base) events;
    }

-- what a program records behind its mark: each octet in its place
abbrev pub fills : ℕ → List ℕ → List BoardEvent
fills at [] = []
fills at (x ∷ xs) = Fill at 1 x ∷ fills (at + 1) xs

-- what a send records: each octet
abbrev pub sends : List ℕ → List BoardEvent
sends [] = []
sends (x ∷ xs) = Sent x ∷ sends xs

-- filling keeps the length
pub length-filled : {A : Type 0} (at n : ℕ) (x : A) (ys : List A)
    → length (filled at n x ys) ≡ length ys
length-filled at n x [] = refl
length-filled zero zero x (y ∷ ys) = refl
length-filled zero (suc n) x (y ∷ ys) = ap suc (length-filled zero n x ys)
length-filled (suc at) n x (y ∷ ys) = ap suc (length-filled at n x ys)

length-step : (s : BoardState) (e : BoardEvent) → length (step s e).cells ≡ length s.cells
length-step s (Mark at n) = refl
length-step s (Fill at n x) = length-filled at n x s.cells
length-step s Sync = refl
length-step s (Sent x) = refl

-- a record's steps keep the number of cells
pub length-run : (s : BoardState) (es : List BoardEvent) → length (run s es).cells ≡ length s.cells
length-run s [] = refl
length-run s (e ∷ es) = length-run (step s e) es ∙ length-step s e

-- a record means an honest board
pub view_honest : (blocks : ℕ) (base : List ℕ) (events : List BoardEvent) (erased faults : ℕ)
    → 1 ≤ blocks → blocks ≤ 8276 → length base ≡ 4096 * blocks
    → IsHonest (Unit {0}) (Unit {0}) (view_of blocks base events erased faults)
view_honest blocks base events erased faults least most size =
    let P : List ℕ → List ℕ → List BoardEvent → Type 0 =
    λ image s es. LeftAt (run (begun base) es) image s in
    let whole : take (length events) events ≡ events =
    take_all (length events) events (omega arith) in
    record {
      least = least;
      most = most;
      size = λ told. length-run (begun base) events ∙ size;
      whole = λ told. told;
      some_sent = λ told. ((run (begun base) events).sent, refl);
      one_sent = λ told r s is_r is_s. is_r ∙ sym is_s;
      counts_now = λ told t image s le now.
          (length events, le, omega arith, subst (P image s) (sym whole) now);
      only_now = λ image s left. subst (P image s) (take_all left.0 events left.1) left.3;
    }
