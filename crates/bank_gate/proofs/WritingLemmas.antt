-- Calls that write a bank anew, one after the other.
use Rattle.std.proofs.Common.{◌≡◌, ◌⊎◌, inl, inr, ⊎_elim, ℕ, List, ◌∙◌, sym, ap, subst, arith}
use Rattle.std.proofs.lemmas.Bool.{cases_eq}
use Rattle.std.proofs.lemmas.List.{ext_get_or}
use Rattle.edge_board.specs.Board.{View, Within, InBlock, Nowhere, Keeps, IsSettled, Leaves, cell}
use Rattle.edge_board.specs.Runs.{Touches, LeavesOnly, Spares}
use Rattle.edge_board.proofs.RunLemmas.{goes_on, keeps_none, keeps_settled, keeps_then, keeps_wider}
use Rattle.edge_board.proofs.RunLemmas.{leaves_both, leaves_weaker, settled_image, touch_then, touch_wider}
use Rattle.bank_gate.specs.declared.place.Place.{Place}
use Rattle.bank_gate.specs.Places.{gate_at}
use Rattle.bank_gate.specs.States.{IsOpen, IsShut, IsSealed, IsOpened}
use Rattle.bank_gate.specs.Writing.{GateOr, WritesBehind, RewriteMoment}

-- where the gate alone was free and is open as it was, nothing has changed
same_but_gate : (place : Place) (start image : List ℕ) → IsOpen place start
    → Keeps (Within (gate_at place) 1) start image → IsOpen place image → image ≡ start
same_but_gate place start image was keeps is = ext_get_or 0 image start keeps.size
    (λ i lt. elim (cases_eq i (gate_at place)) [
      | inl at ↦ ap (λ (k : ℕ). cell image k) at ∙ is ∙ sym was ∙ ap (λ (k : ℕ). cell start k) (sym at)
      | inr other ↦ keeps.each i (λ within. other (omega (arith, within.0, within.1)))
    ])

module _ {told : Type 0} (place : Place) {free : ℕ → Type 0} (start : View) (settled : told → IsSettled start) where
  -- the gate is closed first
  pub close_first : (new : View) → Touches told (Within (gate_at place) 1) start new
      → (told → ¬ IsOpen place start.cells → Touches told Nowhere start new)
      → WritesBehind told place free start new
  close_first new touches already = record {
    touches = touch_wider start new (λ t i within. inl within) touches;
    moments = λ t. elim (cases_eq (cell start.cells (gate_at place)) 15) [
      | inl was ↦ leaves_weaker start new (Spares (Within (gate_at place) 1) start)
          (λ image s. IsOpen place image → image ≡ start.cells) (touches.images t)
          (λ image s spares.
          same_but_gate place start.cells image was (keeps_settled start image (settled t) spares.0))
      | inr shut ↦ leaves_weaker start new (Spares Nowhere start)
          (λ image s. IsOpen place image → image ≡ start.cells) ((already t shut).images t)
          (λ image s spares is. keeps_none start.cells image (keeps_settled start image (settled t) spares.0))
    ];
  }

  -- and then calls that spare it write behind it
  pub write_next : {part : ℕ → Type 0} (mid new : View) → ((i : ℕ) → part i → free i) → ¬ part (gate_at place)
      → WritesBehind told place free start mid → (told → IsShut place mid) → Touches told part mid new
      → WritesBehind told place free start new
  write_next {part} mid new inside spared so_far shut touches = record {
    touches = touch_then start mid new so_far.touches (touch_wider mid new (λ t i p. inr (inside i p)) touches);
    moments = λ t. goes_on start mid new (λ image s. IsOpen place image → image ≡ start.cells) (Spares part mid)
        (so_far.moments t) (touches.images t)
        (λ image s spares is. absurd ((shut t).gate
        (sym (spares.0.each (gate_at place) (⊎_elim spared (shut t).stable)) ∙ is)));
  }

  -- what stands while the body is written
  pub rewrite_written : told → (written : List ℕ → Type 0) (new : View) → WritesBehind told place free start new
      → LeavesOnly start new (RewriteMoment place free written start)
  rewrite_written t written new writes =
      leaves_weaker start new
      (λ image s. (IsOpen place image → image ≡ start.cells) × Spares (GateOr place free) start image s)
      (RewriteMoment place free written start)
      (leaves_both start new (λ image s. IsOpen place image → image ≡ start.cells) (Spares (GateOr place free) start)
      (writes.moments t) (writes.touches.images t))
      (λ image s both. (
        record {
          opened = λ is. inl (both.0 is);
          others = keeps_wider start.cells image (λ i. gate_in_block i)
              (keeps_settled start image (settled t) both.1.0);
        },
        both.1.1,
      ))
    where
      gate_in_block : (i : ℕ) → GateOr place free i → InBlock place.gate i ⊎ free i
      gate_in_block i = ⊎_elim (λ within. inl (within.0, omega (arith, within.1))) (λ f. inr f)

  -- and while the gate is opened over it
  pub rewrite_opened : told → (sealed new : View) → WritesBehind told place free start sealed
      → IsSealed place sealed → Touches told (InBlock place.gate) sealed new
      → LeavesOnly start new (RewriteMoment place free (Keeps (InBlock place.gate) sealed.cells) start)
  rewrite_opened t sealed new writes stands switch =
      goes_on start sealed new (RewriteMoment place free (Keeps (InBlock place.gate) sealed.cells) start) (Spares (InBlock place.gate) sealed)
      (rewrite_written t (Keeps (InBlock place.gate) sealed.cells) sealed writes) (switch.images t)
      (λ image s spares.
      let keeps = keeps_settled sealed image stands.settled spares.0 in (
        record {
          opened = λ is. inr keeps;
          others = keeps_then start.cells sealed.cells image
              (λ i. ⊎_elim (λ within. inl (within.0, omega (arith, within.1))) (λ f. inr f)) (λ i within. inl within)
              (writes.touches.cells t) keeps;
        },
        writes.touches.silent.back s spares.1,
      ))

-- with the gate open there is one image, and it has the body that was sealed
pub opened_image : {told : Type 0} (t : told) (place : Place) (sealed new : View)
    → Touches told (InBlock place.gate) sealed new → IsOpened place new → (image : List ℕ) → Leaves new image
    → IsOpen place image × Keeps (InBlock place.gate) sealed.cells image
opened_image t place sealed new switch opened image leaves =
    let is : image ≡ new.cells = settled_image new opened.settled image leaves in (
      subst (λ (l : List ℕ). IsOpen place l) (sym is) opened.gate,
      subst (λ (l : List ℕ). Keeps (InBlock place.gate) sealed.cells l) (sym is) (switch.cells t),
    )
