-- Runs that write and then send, and a send in several calls.
use Rattle.std.proofs.Common.{◌≡◌, ℕ, ◌+◌, ◌≤◌, List, [], ◌++◌, length, take, refl, ◌∙◌, sym, ap, subst, arith}
use Rattle.std.proofs.Common.{append_assoc, length-append, length-take, take-take, Result, Ok, Err, OnErr}
use Rattle.std.proofs.lemmas.List.{append-nil, append_cancel_left, take-append-le}
use Rattle.std.proofs.Math.Seq.{take-append-add, take-append_seam}
use Rattle.edge_board.specs.Board.{View, Keeps, Nowhere, SameTest, Unchanged, Sent, Now, NowSending, Sends, Effect}
use Rattle.edge_board.specs.Board.{IsHonest, IsSettled, Leaves}
use Rattle.edge_board.specs.Runs.{LeavesOnly, Spares, Touches}
use Rattle.edge_board.specs.Sends.{IsFront, FrontSent, Sending, SendsFront}
use Rattle.edge_board.proofs.RunLemmas.{leaves_weaker, goes_on, elapsed, keeps_settled, settled_image, leaves_back}

-- Exactly these octets were sent from the start to now.
abbrev pub SentSince : View → View → List ℕ → Type 0
SentSince start now done = (q : List ℕ) → now.sent q → (p : List ℕ) × start.sent p × (q ≡ p ++ done)

-- a run that sent nothing sent no octets
pub sent_none : (start now : View) → SameTest start.sent now.sent → SentSince start now []
sent_none start now silent q h = (q, silent.back q h, sym (append-nil q))

-- what a call says that it sent is all that was
pub sent_all : {tc tm : Type 0} → tm → (start now : View) (done : List ℕ) → IsHonest tc tm start
    → IsHonest tc tm now → Sent start now done → SentSince start now done
sent_all told start now done honest_start honest sent q h =
    let at = honest_start.some_sent told in
    (at.0, at.1, honest.one_sent told q (at.0 ++ done) h (sent at.0 at.1))

-- ---- runs

-- a run that sent nothing
pub sending_none : (start new : View) (P Q : List ℕ → List ℕ → Type 0) → LeavesOnly start new P
    → ((image s : List ℕ) → P image s → start.sent s × Q image []) → LeavesOnly start new (Sending start Q)
sending_none start new P Q run none = leaves_weaker start new P (Sending start Q) run
    (λ image s h. let n = none image s h in (s, [], n.0, sym (append-nil s), n.1))

-- the same over a board where nothing was pending, by the positions that the run may have changed
pub sending_touched : {told : Type 0} {free : ℕ → Type 0} (start new : View) (P : List ℕ → List ℕ → Type 0) → told
    → IsSettled start → Touches told free start new
    → ((image : List ℕ) → Keeps free start.cells image → P image []) → LeavesOnly start new (Sending start P)
sending_touched {told} {free} start new P t settled touches allows = sending_none start new (Spares free start) P
    (touches.images t) (λ image s spares. (spares.1, allows image (keeps_settled start image settled spares.0)))

-- From one run to a longer one: `done` was sent in the first, and what has Q with the octets
-- sent since has P with `done` before them.
pub sending_then : (start mid new : View) (P Q : List ℕ → List ℕ → Type 0) (done : List ℕ)
    → SentSince start mid done → LeavesOnly start mid (Sending start P) → LeavesOnly mid new (Sending mid Q)
    → ((image s : List ℕ) → Q image s → P image (done ++ s)) → LeavesOnly start new (Sending start P)
sending_then start mid new P Q done sent first second more =
    goes_on start mid new (Sending start P) (Sending mid Q) first second
    (λ image q h.
    let was = sent h.0 h.2 in (
      was.0,
      done ++ h.1,
      was.1,
      h.3 ∙ ap (λ (l : List ℕ). l ++ h.1) was.2 ∙ append_assoc was.0 done h.1,
      more image h.1 h.4,
    ))

-- the same with octets that are sent over cells of which nothing is pending
pub sending_front : (start mid new : View) (P : List ℕ → List ℕ → Type 0) (done bytes : List ℕ)
    → SentSince start mid done → IsSettled mid → LeavesOnly start mid (Sending start P)
    → LeavesOnly mid new (SendsFront mid bytes)
    → ((k : ℕ) → k ≤ length bytes → P mid.cells (done ++ take k bytes)) → LeavesOnly start new (Sending start P)
sending_front start mid new P done bytes sent settled first second allows =
    sending_then start mid new P (λ image s. Leaves mid image × IsFront bytes s) done sent first second
    (λ image s h.
    subst (λ (c : List ℕ). P c (done ++ s)) (sym (settled_image mid settled image h.0))
    (subst (λ (l : List ℕ). P mid.cells (done ++ l)) (sym h.1.2) (allows h.1.0 h.1.1)))

-- what has P since the start has it of all that was sent since
pub sent_since : {tc tm : Type 0} (told : tm) (start new : View) (P : List ℕ → List ℕ → Type 0)
    → IsHonest tc tm start → LeavesOnly start new (Sending start P)
    → (p image s : List ℕ) → start.sent p → new.might start.clock image (p ++ s) → P image s
sent_since told start new P honest moments p image s sent left =
    let found = moments.each image (p ++ s) left in
    let one : found.0 ≡ p = honest.one_sent told found.0 p found.2 sent in
    let rest : s ≡ found.1 = append_cancel_left p s found.1 (found.3 ∙ ap (λ (l : List ℕ). l ++ found.1) one) in
    subst (λ (l : List ℕ). P image l) (sym rest) found.4

-- ---- one send, and several

-- none of the octets has been sent
no_front : (now : View) (bytes image s : List ℕ) → Leaves now image → now.sent s → SendsFront now bytes image s
no_front now bytes image s leaves sent = (s, [], sent, sym (append-nil s), (leaves, (0, omega arith, refl)))

module _ {tc tm : Type 0} (now next : View) (honest : IsHonest tc tm now) (same : Unchanged now next) where
  -- a send that took n octets
  pub one_send : (bytes : List ℕ) (n : ℕ) → Sends tc tm bytes n now next
      → LeavesOnly now next (SendsFront now (take n bytes))
  one_send bytes n sends = elapsed now next (SendsFront now (take n bytes)) (NowSending now next bytes n) honest sends.time
      (λ image s left. no_front now (take n bytes) image s left.0 left.1)
      (λ image s left. (
        left.1.0,
        take left.1.1 bytes,
        left.1.2,
        left.1.4,
        (
          leaves_back now next same image left.0,
          (
            left.1.1,
            omega (arith, left.1.3, sends.taken, length-take n bytes),
            sym (take-take left.1.1 n bytes left.1.3),
          ),
        ),
      ))

  -- a send that failed
  pub failed_send : Effect tc tm Nowhere now next → LeavesOnly now next (SendsFront now [])
  failed_send effect = elapsed now next (SendsFront now []) (Now next) honest effect.time
      (λ image s left. no_front now [] image s left.0 left.1)
      (λ image s left. no_front now [] image s (leaves_back now next same image left.0) (effect.silent.back s left.1))

-- one more part of the octets goes out
pub front_then : (start now next : View) (bytes front part rest : List ℕ) → front ++ (part ++ rest) ≡ bytes
    → SentSince start now front → Unchanged start now → LeavesOnly start now (SendsFront start bytes)
    → LeavesOnly now next (SendsFront now part) → LeavesOnly start next (SendsFront start bytes)
front_then start now next bytes front part rest whole sent same first second =
    sending_then start now next (λ image s. Leaves start image × IsFront bytes s)
    (λ image s. Leaves now image × IsFront part s) front sent first second
    (λ image s h. (
      leaves_back start now same image h.0,
      (
        length front + h.1.0,
        omega (arith, h.1.1, ap length whole, length-append front (part ++ rest), length-append part rest),
        ap (λ (l : List ℕ). front ++ l) (h.1.2 ∙ sym (take-append-le h.1.0 part rest h.1.1))
            ∙ sym (take-append-add front (part ++ rest) h.1.0)
            ∙ ap (λ (l : List ℕ). take (length front + h.1.0) l) whole,
      ),
    ))

-- a front was sent, and a last call that sent nothing
pub sent_partly : (start now next : View) (bytes front rest : List ℕ) → front ++ rest ≡ bytes
    → Sent start now front → SameTest now.sent next.sent → FrontSent bytes start next
sent_partly start now next bytes front rest whole sent same = (
  length front,
  omega (arith, ap length whole, length-append front rest),
  λ p h. subst (λ (l : List ℕ). next.sent (p ++ l))
      (sym (ap (λ (l : List ℕ). take (length front) l) (sym whole) ∙ take-append_seam front rest))
      (same.forth (p ++ front) (sent p h)),
)

-- a fact holds at Err
pub on_err : {T E Q : Type 0} (r : Result T E) → Q → OnErr r Q
on_err (Ok x) q = tt
on_err (Err e) q = q
