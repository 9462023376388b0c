-- The gate lies in none of the ranges that are written before a bank is sealed, so it stays shut.
use Rattle.std.proofs.Common.{⊎_elim, ℕ, ◌∙◌, sym, arith}
use Rattle.edge_board.specs.Board.{View, Within, InBlock}
use Rattle.edge_board.specs.Runs.{Touches}
use Rattle.bank_gate.specs.declared.place.Place.{Place}
use Rattle.bank_gate.specs.Places.{IsPlace, gate_at, InManifest, LiesInBody}
use Rattle.bank_gate.specs.States.{IsShut}

pub gate_not_in_manifest : (place : Place) → IsPlace place → ¬ InManifest place (gate_at place)
gate_not_in_manifest place is within =
    is.gate_manifest place.gate (omega arith, omega arith) (omega (arith, within.0), omega (arith, within.1))

pub gate_not_in_block : (place : Place) (block : ℕ) → IsPlace place
    → Within place.area place.area_blocks block → ¬ InBlock block (gate_at place)
gate_not_in_block place block is inside within =
    is.gate_area place.gate (omega arith, omega arith)
    (omega (arith, within.0, within.1, inside.0), omega (arith, within.0, within.1, inside.1))

pub gate_not_in_range : (place : Place) (at n : ℕ) → IsPlace place → LiesInBody place at n
    → ¬ Within at n (gate_at place)
gate_not_in_range place at n is inside within = ⊎_elim
    (λ lies. is.gate_manifest place.gate (omega arith, omega arith)
    (omega (arith, within.0, within.1, lies.0, lies.1), omega (arith, within.0, within.1, lies.0, lies.1)))
    (λ lies. is.gate_area place.gate (omega arith, omega arith)
    (omega (arith, within.0, within.1, lies.0, lies.1), omega (arith, within.0, within.1, lies.0, lies.1)))
    inside

-- a run of calls that spares the gate keeps it shut
pub stays_shut : {told : Type 0} {free : ℕ → Type 0} (place : Place) (a b : View) → told
    → ¬ free (gate_at place) → IsShut place a → Touches told free a b → IsShut place b
stays_shut place a b told spared shut touches = record {
  stable = λ p. ⊎_elim spared shut.stable (touches.pending told (gate_at place) p);
  gate = λ is. shut.gate (sym ((touches.cells told).each (gate_at place) spared) ∙ is);
}
