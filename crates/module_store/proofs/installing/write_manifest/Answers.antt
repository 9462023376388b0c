use Rattle.std.proofs.Common.{◌≡◌, ℕ, ◌*◌, ◌≤◌, length, ◌∙◌, subst, arith}
use Rattle.edge_board.specs.Board.{View, Within, Nowhere, IsSettled}
use Rattle.edge_board.specs.Runs.{Touches}
use Rattle.bank_gate.specs.declared.place.Place.{Place}
use Rattle.bank_gate.specs.Places.{InManifest, gate_at}
use Rattle.bank_gate.specs.States.{IsOpen, IsShut}
use Rattle.bank_gate.specs.Writing.{WritesBehind}
use Rattle.bank_gate.proofs.WritingLemmas.{close_first, write_next}
use Rattle.bank_layout.specs.declared.bank.Bank.{Bank}
use Rattle.bank_layout.specs.Layout.{place_of}
use Rattle.module_store.proofs.installing.write_manifest.Goals as goal

-- the calls in turn, each with the place of its state
module _ {told : Type 0} (bank : Bank) (a : View) (settled : told → IsSettled a) where
  abbrev Writes : View → Type 0
  Writes b = WritesBehind told (place_of bank) (InManifest (place_of bank)) a b

  closed : (p : Place) → p ≡ place_of bank → (b : View) → Touches told (Within (gate_at p) 1) a b
      → (told → ¬ IsOpen p a.cells → Touches told Nowhere a b) → Writes b
  closed p is b close already = close_first (place_of bank) a settled b
      (subst (λ (q : Place). Touches told (Within (gate_at q) 1) a b) is close)
      (subst (λ (q : Place). told → ¬ IsOpen q a.cells → Touches told Nowhere a b) is already)

  module _ (b : View) (so_far : Writes b) (p : Place) (is : p ≡ place_of bank) (shut : told → IsShut p b) where
    next : {part : ℕ → Type 0} (c : View) → ((i : ℕ) → part i → InManifest (place_of bank) i) → Touches told part b c
        → Writes c
    next c inside touches = write_next (place_of bank) a settled b c inside
        (λ gate. omega (arith, (inside (gate_at (place_of bank)) gate).0)) so_far
        (subst (λ (q : Place). told → IsShut q b) is shut) touches

    wiped : (c : View) (q : Place) → q ≡ place_of bank → Touches told (InManifest q) b c → Writes c
    wiped c q same touches = next c (λ i w. w) (subst (λ (r : Place). Touches told (InManifest r) b c) same touches)

    put : (n : ℕ) → n ≤ 131072 → (q : Place) → q ≡ place_of bank → (c : View)
        → Touches told (Within (4096 * q.manifest) n) b c → Writes c
    put n few q same c touches = next c (λ i w. (w.0, omega (arith, w.1, few)))
        (subst (λ (r : Place). Touches told (Within (4096 * r.manifest) n) b c) same touches)

    sealed : (c : View) → Touches told Nowhere b c → Writes c
    sealed c touches = next c (λ i none. absurd none) touches

pub returns-in_err-closed-clause-writes : goal.returns-in_err-closed-clause-writes
returns-in_err-closed-clause-writes g c =
    closed c.args.bank _ c.requires.settled c.new.result (c.new.ensures.place ∙ c.place-place.ensures.place) _
    c.close.ensures.touches c.close.ensures.already

pub returns-in_err-wiped-clause-writes : goal.returns-in_err-wiped-clause-writes
returns-in_err-wiped-clause-writes g c =
    let is = c.new.ensures.place ∙ c.place-place.ensures.place in
    wiped c.args.bank _ c.requires.settled _
    (closed c.args.bank _ c.requires.settled c.new.result is _ c.close.ensures.touches c.close.ensures.already)
    c.new.result is (λ told. c.in_ok-closed.ensures.shut told) _ c.in_ok-closed.closed
    (c.in_ok-closed.ensures.place ∙ is) c.wipe.ensures.touches

pub returns-in_err-put-clause-writes : goal.returns-in_err-put-clause-writes
returns-in_err-put-clause-writes g c =
    let is = c.new.ensures.place ∙ c.place-place.ensures.place in
    put c.args.bank _ c.requires.settled _
    (wiped c.args.bank _ c.requires.settled _
    (closed c.args.bank _ c.requires.settled c.new.result is _ c.close.ensures.touches c.close.ensures.already)
    c.new.result is (λ told. c.in_ok-closed.ensures.shut told) _ c.in_ok-closed.closed
    (c.in_ok-closed.ensures.place ∙ is) c.wipe.ensures.touches)
    c.in_ok-closed.closed (c.in_ok-closed.ensures.place ∙ is) c.wipe.ensures.shut
    (length c.args.octets.now) c.requires.fits c.place-place.result c.place-place.ensures.place _ c.put.ensures.touches

pub returns-clause-writes : goal.returns-clause-writes
returns-clause-writes g c =
    let is = c.new.ensures.place ∙ c.place-place.ensures.place in
    sealed c.args.bank _ c.requires.settled _
    (put c.args.bank _ c.requires.settled _
    (wiped c.args.bank _ c.requires.settled _
    (closed c.args.bank _ c.requires.settled c.new.result is _ c.close.ensures.touches c.close.ensures.already)
    c.new.result is (λ told. c.in_ok-closed.ensures.shut told) _ c.in_ok-closed.closed
    (c.in_ok-closed.ensures.place ∙ is) c.wipe.ensures.touches)
    c.in_ok-closed.closed (c.in_ok-closed.ensures.place ∙ is) c.wipe.ensures.shut
    (length c.args.octets.now) c.requires.fits c.place-place.result c.place-place.ensures.place _ c.put.ensures.touches)
    c.in_ok-wiped.wiped (c.in_ok-wiped.ensures.place ∙ c.in_ok-closed.ensures.place ∙ is) c.put.ensures.shut _
    c.seal.ensures.touches
