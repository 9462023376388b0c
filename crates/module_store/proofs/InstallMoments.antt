-- What a power cut leaves while a manifest is written and its gate is opened.
use Rattle.std.proofs.Common.{◌≡◌, inl, ⊎_elim, ◌⊎◌, ℕ, ◌+◌, List, Option, Some, sym, ap, subst, ◌∙◌, arith}
use Rattle.edge_board.specs.Board.{View, InBlock, Keeps, IsSettled}
use Rattle.edge_board.specs.Runs.{LeavesOnly, Touches, Spares}
use Rattle.edge_board.proofs.RunLemmas.{keeps_settled, keeps_wider, leaves_both, leaves_weaker, touch_then, touch_wider}
use Rattle.bank_gate.specs.Places.{InManifest}
use Rattle.bank_gate.specs.States.{IsOpen, IsSealed, Stands}
use Rattle.bank_gate.specs.Writing.{GateOr, WritesBehind}
use Rattle.module_record.specs.declared.module.Module.{Module}
use Rattle.bank_layout.specs.declared.bank.Bank.{Bank}
use Rattle.bank_layout.specs.declared.format.Format.TheVariants as formats
use Rattle.bank_layout.specs.Layout.{InBank, gate_block, manifest_octets, manifest_start, place_of}
use Rattle.bank_layout.specs.Manifest.{Manifest, IsManifest, BeginsWithManifest, manifest_text}
use Rattle.bank_layout.specs.Recovery.{HoldsModule}
use Rattle.bank_layout.specs.Changes.{Installs, OldOrNew, spare}
use Rattle.module_store.specs.Store.{IsStoreOf, manifest_of}
use Rattle.module_store.specs.declared.store.Store.{Store}

-- one of the gate's or the manifest's positions is the bank's
in_bank : (bank : Bank) (i : ℕ) → GateOr (place_of bank) (InManifest (place_of bank)) i → InBank bank i
in_bank bank i = ⊎_elim (λ gate. (gate.0, omega (arith, gate.1))) (λ body. (omega (arith, body.0), omega (arith, body.1)))

-- what the law of layouts says of an image in which the spare was written
abbrev pub LeavesOldOrNew : Type 0
LeavesOldOrNew = (a b : List ℕ) (m : Module) (running : Option Bank) (manifest next : Manifest)
    → HoldsModule a m running manifest → Keeps (InBank (spare running)) a b
    → (IsOpen (place_of (spare running)) b → (IsOpen (place_of (spare running)) a
    × (manifest_octets (spare running) b ≡ manifest_octets (spare running) a))
    ⊎ BeginsWithManifest m.capacity (manifest_octets (spare running) b) next)
    → next.sequence ≡ manifest.sequence + 1 → OldOrNew a b m manifest next

module _ {told : Type 0} (m : Module) (running : Option Bank) (manifest next : Manifest) (old mid : View)
    (bank : Bank) (bank_is : bank ≡ spare running)
    (writes : WritesBehind told (place_of bank) (InManifest (place_of bank)) old mid) where
  behind : WritesBehind told (place_of (spare running)) (InManifest (place_of (spare running))) old mid
  behind = subst (λ (b : Bank). WritesBehind told (place_of b) (InManifest (place_of b)) old mid) bank_is writes

  pub wrote : Touches told (InBank (spare running)) old mid
  wrote = touch_wider old mid (λ t i. in_bank (spare running) i) behind.touches

  pub switched : (new : View) → Touches told (InBlock (gate_block bank)) mid new
      → Touches told (InBank (spare running)) old new
  switched new switch = touch_then old mid new wrote (touch_wider mid new (λ t i w. (w.0, omega (arith, w.1)))
      (subst (λ (b : Bank). Touches told (InBlock (gate_block b)) mid new) bank_is switch))

  module _ (yes : told) (holds : HoldsModule old.cells m running manifest) (settled : IsSettled old)
      (sequence : next.sequence ≡ manifest.sequence + 1) where
    pub body_moments : LeavesOldOrNew
        → LeavesOnly old mid (λ image s. OldOrNew old.cells image m manifest next × old.sent s)
    body_moments law = leaves_weaker old mid
        (λ image s. (IsOpen (place_of (spare running)) image → image ≡ old.cells)
        × Spares (GateOr (place_of (spare running)) (InManifest (place_of (spare running)))) old image s)
        (λ image s. OldOrNew old.cells image m manifest next × old.sent s)
        (leaves_both old mid (λ image s. IsOpen (place_of (spare running)) image → image ≡ old.cells)
        (Spares (GateOr (place_of (spare running)) (InManifest (place_of (spare running)))) old)
        (behind.moments yes) (behind.touches.images yes))
        (λ image s both. (
          law old.cells image m running manifest next holds
              (keeps_wider old.cells image (in_bank (spare running)) (keeps_settled old image settled both.1.0))
              (λ opens. inl (
                subst (λ (l : List ℕ). IsOpen (place_of (spare running)) l) (both.0 opens) opens,
                ap (manifest_octets (spare running)) (both.0 opens),
              )) sequence,
          both.1.1,
        ))

    pub installs : IsManifest m.capacity next → (octets : List ℕ) → octets ≡ manifest_text formats.Two next
        → Stands (manifest_start bank) octets mid.cells → IsSealed (place_of bank) mid → (new : View)
        → Touches told (InBlock (gate_block bank)) mid new → Installs told m running manifest next old mid new
    installs valid octets text stands sealed new switch = record {
      holds = holds;
      settled = settled;
      valid = valid;
      sequence = sequence;
      writes = wrote;
      shut = behind.moments yes;
      stands = subst (λ (b : Bank). Stands (manifest_start b) (manifest_text formats.Two next) mid.cells) bank_is
          (subst (λ (l : List ℕ). Stands (manifest_start bank) l mid.cells) text stands);
      sealed = subst (λ (b : Bank). IsSealed (place_of b) mid) bank_is sealed;
      switches = subst (λ (b : Bank). Touches told (InBlock (gate_block b)) mid new) bank_is switch;
    }

-- the store of what runs then
pub held_by : (s : Store) (image : List ℕ) (m : Module) (running : Option Bank) (bank : Bank) (next : Manifest)
    → s.module ≡ m → s.running ≡ Some bank → bank ≡ spare running → manifest_of s ≡ next
    → HoldsModule image m (Some (spare running)) next → IsStoreOf s image
held_by s image m running bank next owner runs bank_is says holds =
    subst (λ (x : Module). HoldsModule image x s.running (manifest_of s)) (sym owner)
    (subst (λ (r : Option Bank). HoldsModule image m r (manifest_of s))
    (sym (runs ∙ ap (λ (b : Bank). Some b) bank_is))
    (subst (λ (x : Manifest). HoldsModule image m (Some (spare running)) x) (sym says) holds))
