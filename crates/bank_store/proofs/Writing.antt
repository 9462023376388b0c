-- The calls that write behind the factory gate, one after the other.
use Rattle.std.proofs.Common.{◌≡◌, inl, inr, ⊎_elim, ℕ, ◌<◌, ◌≤◌, subst, arith}
use Rattle.edge_board.specs.Board.{View, Within, InBlock, Nowhere, IsSettled}
use Rattle.edge_board.specs.Runs.{Touches}
use Rattle.edge_board.proofs.RunLemmas.{touch_wider}
use Rattle.bank_gate.specs.declared.place.Place.{Place}
use Rattle.bank_gate.specs.Places.{InManifest, gate_at}
use Rattle.bank_gate.specs.States.{IsOpen, IsShut}
use Rattle.bank_gate.specs.Writing.{WritesBehind}
use Rattle.bank_gate.proofs.WritingLemmas.{close_first, write_next}
use Rattle.bank_layout.specs.declared.bank.Bank.{Bank}
use Rattle.bank_layout.specs.declared.bank.Bank.TheVariants as banks
use Rattle.bank_layout.specs.Layout.{factory, gate_block, InKeyBody}
use Rattle.bank_store.specs.Layout.{factory_with, InModuleBody}

-- ---- a key's body, each call with the place of its state

module _ {told : Type 0} (a : View) (settled : told → IsSettled a) (n : ℕ) where
  pub closed : (p : Place) → p ≡ factory_with n → (b : View) → Touches told (Within (gate_at p) 1) a b
      → (told → ¬ IsOpen p a.cells → Touches told Nowhere a b) → WritesBehind told factory InKeyBody a b
  closed p is b close already = close_first factory a settled b
      (subst (λ (q : Place). Touches told (Within (gate_at q) 1) a b) is close)
      (subst (λ (q : Place). told → ¬ IsOpen q a.cells → Touches told Nowhere a b) is already)

  module _ (b : View) (so_far : WritesBehind told factory InKeyBody a b) (p : Place) (is : p ≡ factory_with n)
      (shut : told → IsShut p b) where
    as_factory : IsShut (factory_with n) b → IsShut factory b
    as_factory is_shut = record { stable = is_shut.stable; gate = is_shut.gate }

    next : {part : ℕ → Type 0} (c : View) → ((i : ℕ) → part i → InKeyBody i) → Touches told part b c
        → WritesBehind told factory InKeyBody a c
    next c inside touches = write_next factory a settled b c inside
        (λ gate. omega (arith, (inside (gate_at factory) gate).0)) so_far
        (λ t. as_factory (subst (λ (q : Place). IsShut q b) is (shut t))) touches

    pub wiped : (c : View) (q : Place) → q ≡ factory_with n → Touches told (InManifest q) b c
        → WritesBehind told factory InKeyBody a c
    wiped c q same touches = next c (λ i w. (omega (arith, w.0), omega (arith, w.1)))
        (subst (λ (r : Place). Touches told (InManifest r) b c) same touches)

    pub put : (k : ℕ) → k ≤ 65536 → (c : View) → Touches told (Within 4096 k) b c
        → WritesBehind told factory InKeyBody a c
    put k few c touches = next c (λ i w. (w.0, omega (arith, w.1, few))) touches

    pub erased : (c : View) → Touches told (InBlock 17) b c → WritesBehind told factory InKeyBody a c
    erased c touches = next c (λ i w. (omega (arith, w.0), omega (arith, w.1))) touches

-- ---- and what follows

-- nothing more is written
pub sealed : {told : Type 0} {body : ℕ → Type 0} (a b c : View) → (told → IsSettled a)
    → WritesBehind told factory body a b → (told → IsShut factory b) → Touches told Nowhere b c
    → WritesBehind told factory body a c
sealed a b c settled so_far shut touches =
    write_next factory a settled b c (λ i none. absurd none) (λ none. none) so_far shut touches

-- a key's body is part of a module's
pub module_wider : {told : Type 0} (a b : View) → WritesBehind told factory InKeyBody a b
    → WritesBehind told factory InModuleBody a b
module_wider a b writes = record {
  touches = touch_wider a b (λ t i. ⊎_elim (λ gate. inl gate) (λ body. inr (inl body))) writes.touches;
  moments = writes.moments;
}

-- and so is the block of a bank's gate
bank_inside : (bank : Bank) (i : ℕ) → InBlock (gate_block bank) i → InModuleBody i
bank_inside banks.Zero i within = inr (inl within)
bank_inside banks.One i within = inr (inr within)

bank_behind : (bank : Bank) → ¬ InBlock (gate_block bank) (gate_at factory)
bank_behind banks.Zero within = omega (arith, within.0)
bank_behind banks.One within = omega (arith, within.0)

pub bank_shut : {told : Type 0} (bank : Bank) (a b c : View) → (told → IsSettled a)
    → WritesBehind told factory InModuleBody a b → (told → IsShut factory b)
    → Touches told (InBlock (gate_block bank)) b c → WritesBehind told factory InModuleBody a c
bank_shut bank a b c settled so_far shut touches =
    write_next factory a settled b c (bank_inside bank) (bank_behind bank) so_far shut touches

-- it lies in the area from the key block on
pub gate_after : (bank : Bank) → 17 ≤ gate_block bank
gate_after banks.Zero = omega arith
gate_after banks.One = omega arith

pub gate_before : (bank : Bank) → gate_block bank < 52
gate_before banks.Zero = omega arith
gate_before banks.One = omega arith
