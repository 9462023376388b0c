-- Which manifest is in force: one at most, and the greatest sequence of the open banks.
use Rattle.std.proofs.Common.{◌≡◌, ℕ, ◌≤◌, List, length, drop, Option, Some, None, refl, sym, ◌∙◌, ap, subst, arith, length-take}
use Rattle.std.specs.Prelude.{Contains}
use Rattle.bank_gate.specs.States.{IsOpen}
use Rattle.module_record.specs.declared.module.Module.{Module}
use Rattle.bank_layout.specs.declared.bank.Bank.{Bank}
use Rattle.bank_layout.specs.declared.bank.Bank.TheVariants as banks
use Rattle.bank_layout.specs.Layout.{place_of, manifest_octets}
use Rattle.bank_layout.specs.Manifest.{Manifest, named_blocks}
use Rattle.bank_layout.specs.Recovery.{IsOver, Runs, IsInForce, HoldsModule}
use Rattle.bank_layout.specs.Changes.{IsUnnamed, IsUnnamedIn}
use Rattle.bank_layout.proofs.Texts.{one_manifest}

module _ (image : List ℕ) (capacity : ℕ) where
  few : (bank : Bank) → length (manifest_octets bank image) ≤ 131072
  few banks.Zero = omega (arith, length-take 131072 (drop 77824 image))
  few banks.One = omega (arith, length-take 131072 (drop 212992 image))

  over_one : (bank : Bank) (m n : Manifest) → IsOver capacity image bank m → IsOver capacity image bank n → m ≡ n
  over_one bank m n first second = one_manifest capacity (manifest_octets bank image) m n (few bank) first.text second.text

  same_sequence : (bank : Bank) (m n : Manifest) → IsOver capacity image bank m → IsOver capacity image bank n
      → m.sequence ≡ n.sequence
  same_sequence bank m n first second = ap (λ (x : Manifest). x.sequence) (over_one bank m n first second)

  -- both banks can't run before each other
  not_both_run : (m n : Manifest) → Runs capacity image banks.Zero m → Runs capacity image banks.One n → ⊥
  not_both_run m n first second =
      let one = first.before second.over.gate in
      let two = second.before first.over.gate in
      omega (
        arith,
        one.2,
        two.2,
        same_sequence banks.One one.0 n one.1 second.over,
        same_sequence banks.Zero two.0 m two.1 first.over,
      )

  pub one_in_force : (first second : Option Bank) (m n : Manifest) → IsInForce capacity image first m
      → IsInForce capacity image second n → m ≡ n
  one_in_force None None m n a b = a.1 ∙ sym b.1
  one_in_force None (Some bank) m n a b = absurd (a.0 bank b.over.gate)
  one_in_force (Some bank) None m n a b = absurd (b.0 bank a.over.gate)
  one_in_force (Some banks.Zero) (Some banks.Zero) m n a b = over_one banks.Zero m n a.over b.over
  one_in_force (Some banks.One) (Some banks.One) m n a b = over_one banks.One m n a.over b.over
  one_in_force (Some banks.Zero) (Some banks.One) m n a b = absurd (not_both_run m n a b)
  one_in_force (Some banks.One) (Some banks.Zero) m n a b = absurd (not_both_run n m b a)

  pub one_running : (first second : Option Bank) (m n : Manifest) → IsInForce capacity image first m
      → IsInForce capacity image second n → first ≡ second
  one_running None None m n a b = refl
  one_running None (Some bank) m n a b = absurd (a.0 bank b.over.gate)
  one_running (Some bank) None m n a b = absurd (b.0 bank a.over.gate)
  one_running (Some banks.Zero) (Some banks.Zero) m n a b = refl
  one_running (Some banks.One) (Some banks.One) m n a b = refl
  one_running (Some banks.Zero) (Some banks.One) m n a b = absurd (not_both_run m n a b)
  one_running (Some banks.One) (Some banks.Zero) m n a b = absurd (not_both_run n m b a)

  -- what is in force has the greatest sequence
  pub greatest : (running : Option Bank) (manifest : Manifest) → IsInForce capacity image running manifest
      → (bank : Bank) (n : Manifest) → IsOver capacity image bank n → n.sequence ≤ manifest.sequence
  greatest None manifest none bank n over = absurd (none.0 bank over.gate)
  greatest (Some banks.Zero) manifest runs banks.Zero n over =
      omega (arith, same_sequence banks.Zero n manifest over runs.over)
  greatest (Some banks.One) manifest runs banks.One n over =
      omega (arith, same_sequence banks.One n manifest over runs.over)
  greatest (Some banks.Zero) manifest runs banks.One n over =
      let found = runs.before over.gate in
      omega (arith, found.2, same_sequence banks.One n found.0 over found.1)
  greatest (Some banks.One) manifest runs banks.Zero n over =
      let found = runs.before over.gate in
      omega (arith, found.2, same_sequence banks.Zero n found.0 over found.1)

  -- under a module each open gate is over a manifest
  pub open_over : (running : Option Bank) (manifest : Manifest) → IsInForce capacity image running manifest
      → (bank : Bank) → IsOpen (place_of bank) image → (n : Manifest) × IsOver capacity image bank n
  open_over None manifest none bank opens = absurd (none.0 bank opens)
  open_over (Some banks.Zero) manifest runs banks.Zero opens = (manifest, runs.over)
  open_over (Some banks.One) manifest runs banks.One opens = (manifest, runs.over)
  open_over (Some banks.Zero) manifest runs banks.One opens = let f = runs.before opens in (f.0, f.1)
  open_over (Some banks.One) manifest runs banks.Zero opens = let f = runs.before opens in (f.0, f.1)

-- what the running manifest doesn't name, no running manifest does
pub unnamed_by_all : (image : List ℕ) (m : Module) (running : Option Bank) (manifest : Manifest)
    → HoldsModule image m running manifest → (i : ℕ) → IsUnnamed manifest.state i → IsUnnamedIn m.capacity image i
unnamed_by_all image m running manifest holds i (n, inside, unnamed) = (
  n,
  inside,
  λ bank x runs named. unnamed
      (subst (λ (y : Manifest). Contains (named_blocks y.state) n)
      (one_in_force image m.capacity (Some bank) running x manifest runs holds.in_force) named),
)
