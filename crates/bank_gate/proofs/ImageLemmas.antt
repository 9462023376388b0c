-- What the clauses of a bank's states say of each image that a power cut may leave.
use Rattle.std.proofs.Common.{⊎_elim, inl, inr, ℕ, ◌<◌, List, length, set, sym, ◌∙◌, subst, arith, get_or-set_other, get_or-set_same, length-set}
use Rattle.std.proofs.lemmas.Bool.{cases_eq}
use Rattle.edge_board.specs.Board.{View, Keeps, IsHonest, IsSettled, Leaves, InBlock}
use Rattle.edge_board.specs.Runs.{Touches}
use Rattle.edge_board.proofs.RunLemmas.{keeps_all, keeps_settled}
use Rattle.bank_gate.specs.declared.place.Place.{Place}
use Rattle.bank_gate.specs.Places.{IsPlace, LiesBelow, gate_at, InBody}
use Rattle.bank_gate.specs.States.{IsOpen, IsShut}

-- a shut gate is open in no image
pub shut_images : (place : Place) (v : View) → IsShut place v → (image : List ℕ) → Leaves v image
    → ¬ IsOpen place image
shut_images place v shut image keeps is = shut.gate (sym (keeps.each (gate_at place) shut.stable) ∙ is)

-- and where no image has an open gate, it is shut
pub shut_by_images : {tc tm : Type 0} → tc → (place : Place) (v : View) → IsHonest tc tm v
    → LiesBelow v.blocks place → ((image : List ℕ) → Leaves v image → ¬ IsOpen place image) → IsShut place v
shut_by_images told place v honest lies none =
    let inside : gate_at place < length v.cells = omega (arith, lies.gate, honest.size told) in
    record {
      stable = λ pending.
          none (set v.cells (gate_at place) 15)
          (record {
            size = length-set v.cells (gate_at place) 15;
            each = λ i out. elim (cases_eq i (gate_at place)) [
              | inl is ↦ absurd (out (subst v.pending (sym is) pending))
              | inr other ↦ get_or-set_other v.cells (gate_at place) i 15 0 other
            ];
          })
          (get_or-set_same v.cells (gate_at place) 15 0 inside);
      gate = none v.cells (keeps_all v.cells);
    }

-- a run of calls that spares a shut gate opens it in no image
pub no_image_opens : {told : Type 0} {free : ℕ → Type 0} (place : Place) (old new : View) → told
    → ¬ free (gate_at place) → IsShut place old → Touches told free old new
    → (image s : List ℕ) → new.might old.clock image s → ¬ IsOpen place image
no_image_opens place old new told spared shut touches image s left is =
    let spares = (touches.images told).each image s left in
    shut.gate (sym (spares.0.each (gate_at place) (⊎_elim spared shut.stable)) ∙ is)

-- where nothing is pending when a run begins, its images are the cells but for the free positions
pub settled_images : {told : Type 0} {free : ℕ → Type 0} (old new : View) → told → IsSettled old
    → Touches told free old new → (image s : List ℕ) → new.might old.clock image s → Keeps free old.cells image
settled_images old new told settled touches image s left =
    keeps_settled old image settled ((touches.images told).each image s left).0

-- the gate's block has no position of the manifest or the area
pub body_not_in_gate : (place : Place) (i : ℕ) → IsPlace place → InBody place i → ¬ InBlock place.gate i
body_not_in_gate place i is inside within = ⊎_elim
    (λ m. is.gate_manifest place.gate (omega arith, omega arith)
    (omega (arith, within.0, within.1, m.0), omega (arith, within.0, within.1, m.1)))
    (λ a. is.gate_area place.gate (omega arith, omega arith)
    (omega (arith, within.0, within.1, a.0), omega (arith, within.0, within.1, a.1)))
    inside
