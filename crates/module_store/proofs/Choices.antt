-- Which bank runs, by what the open gates are over.
use Rattle.std.proofs.Common.{◌≡◌, ℕ, Bool, true, false, leb, cond, List, Option, None, Some, refl}
use Rattle.std.specs.Prelude.{IfSome, IfNone}
use Rattle.std.proofs.lemmas.Bool.{leb-true, leb-false}
use Rattle.bank_gate.specs.States.{IsOpen}
use Rattle.config_table.specs.State.{State}
use Rattle.config_table.specs.Stored.{Stored}
use Rattle.bank_layout.specs.declared.bank.Bank.{Bank}
use Rattle.bank_layout.specs.declared.bank.Bank.TheVariants.{Zero, One}
use Rattle.bank_layout.specs.Layout.{place_of}
use Rattle.bank_layout.specs.Manifest.{Manifest, IsManifest}
use Rattle.bank_layout.specs.Recovery.{IsOver, IsInForce}
use Rattle.module_store.specs.Choice.{manifest_in, choice}
use Rattle.module_store.specs.Store.{CanRun}

abbrev pub Kept : Type 0
Kept = ℕ × State Stored

-- ---- what is chosen is in force

abbrev pub IsGate : ℕ → List ℕ → Bank → Option Kept → Type 0
IsGate capacity image bank None = ¬ IsOpen (place_of bank) image
IsGate capacity image bank (Some x) = IsOver capacity image bank (manifest_in x)

pub gate_is : (capacity : ℕ) (image : List ℕ) (bank : Bank) (found : Option Kept)
    → IfSome found (λ x. IsOver capacity image bank (manifest_in x)) → IfNone found (¬ IsOpen (place_of bank) image)
    → IsGate capacity image bank found
gate_is capacity image bank None over shut = shut
gate_is capacity image bank (Some x) over shut = over

module _ (capacity : ℕ) (image : List ℕ) where
  abbrev InForce : Option Bank × Manifest → Type 0
  InForce x = IsInForce capacity image x.0 x.1

  none_open : IsGate capacity image Zero None → IsGate capacity image One None → (bank : Bank)
      → ¬ IsOpen (place_of bank) image
  none_open zero one Zero = zero
  none_open zero one One = one

  greater : (zero one : Kept) (b : Bool) → leb one.0 zero.0 ≡ b → IsGate capacity image Zero (Some zero)
      → IsGate capacity image One (Some one)
      → InForce (cond b (Some Zero, manifest_in zero) (Some One, manifest_in one))
  greater zero one true is first second =
      record { over = first; before = λ opens. (manifest_in one, second, leb-true one.0 zero.0 is) }
  greater zero one false is first second =
      record { over = second; before = λ opens. (manifest_in zero, first, leb-false one.0 zero.0 is) }

  pub chosen_in_force : (zero one : Option Kept) → IsGate capacity image Zero zero → IsGate capacity image One one
      → InForce (choice zero one)
  chosen_in_force None None zero one = (none_open zero one, refl)
  chosen_in_force (Some zero) None first shut = record { over = first; before = λ opens. absurd (shut opens) }
  chosen_in_force None (Some one) shut second = record { over = second; before = λ opens. absurd (shut opens) }
  chosen_in_force (Some zero) (Some one) first second = greater zero one (leb one.0 zero.0) refl first second

-- ---- what is chosen can run

module _ (capacity : ℕ) where
  either : (zero one : Kept) (b : Bool) → IsManifest capacity (manifest_in zero) → IsManifest capacity (manifest_in one)
      → CanRun capacity (cond {A = Option Bank × Manifest} b (Some Zero, manifest_in zero) (Some One, manifest_in one)).0
      (cond {A = Option Bank × Manifest} b (Some Zero, manifest_in zero) (Some One, manifest_in one)).1
  either zero one true first second = first
  either zero one false first second = second

  pub chosen_can_run : (zero one : Option Kept) → IfSome zero (λ x. IsManifest capacity (manifest_in x))
      → IfSome one (λ x. IsManifest capacity (manifest_in x))
      → CanRun capacity (choice zero one).0 (choice zero one).1
  chosen_can_run None None zero one = refl
  chosen_can_run (Some zero) None first one = first
  chosen_can_run None (Some one) zero second = second
  chosen_can_run (Some zero) (Some one) first second = either zero one (leb one.0 zero.0) first second

-- ---- what is open under a module

pub opened_over : (capacity : ℕ) (image : List ℕ) (running : Option Bank) (manifest : Manifest) (bank : Bank)
    → IsInForce capacity image running manifest → IsOpen (place_of bank) image
    → (m : Manifest) × IsOver capacity image bank m
opened_over capacity image None manifest bank is opens = absurd (is.0 bank opens)
opened_over capacity image (Some Zero) manifest Zero is opens = (manifest, is.over)
opened_over capacity image (Some Zero) manifest One is opens = let b = is.before opens in (b.0, b.1)
opened_over capacity image (Some One) manifest Zero is opens = let b = is.before opens in (b.0, b.1)
opened_over capacity image (Some One) manifest One is opens = (manifest, is.over)
