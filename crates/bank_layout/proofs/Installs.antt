-- What a power cut in an install leaves.
use Rattle.std.proofs.Common.{◌≡◌, inl, inr, ⊎_elim, ℕ, ◌+◌, ◌*◌, List, Option, Some, sym, ap, subst, arith}
use Rattle.edge_board.specs.Board.{View, Keeps, InBlock, IsSettled}
use Rattle.edge_board.specs.Runs.{LeavesOnly, Touches, Spares}
use Rattle.edge_board.proofs.RunLemmas.{keeps_wider, keeps_then, goes_on, leaves_both, leaves_weaker}
use Rattle.bank_gate.specs.States.{IsOpen, IsOpened, IsSealed, Stands}
use Rattle.bank_layout.specs.declared.bank.Bank.{Bank}
use Rattle.bank_layout.specs.Layout.{gate_block, manifest_start, place_of, manifest_octets, InBank}
use Rattle.bank_layout.specs.Manifest.{Manifest, manifest_text, IsManifest, BeginsWithManifest}
use Rattle.bank_layout.specs.declared.format.Format.TheVariants as formats
use Rattle.module_record.specs.declared.module.Module.{Module}
use Rattle.bank_layout.specs.Recovery.{HoldsModule, Recovers, standing_of}
use Rattle.bank_layout.specs.Recovery.Holder.{module_board}
use Rattle.bank_layout.specs.Changes.{OldOrNew, spare}
use Rattle.bank_layout.proofs.Parts.{kept_part}
use Rattle.bank_layout.proofs.Recovering.{as_before, old_or_new, once_open}
use Rattle.bank_layout.proofs.Sizes.{manifest_stands}

module _ (told : Type 0) (yes : told) (m : Module) (running : Option Bank) (manifest : Manifest) (old mid : View)
    (holds : HoldsModule old.cells m running manifest) (settled : IsSettled old)
    (wrote : Touches told (InBank (spare running)) old mid)
    (shut : LeavesOnly old mid (λ image s. IsOpen (place_of (spare running)) image → image ≡ old.cells)) where
  inside : (image s : List ℕ) → Spares (InBank (spare running)) old image s
      → Keeps (InBank (spare running)) old.cells image
  inside image s spares = keeps_wider old.cells image (λ i. ⊎_elim (λ f. f) (λ p. absurd (settled i p))) spares.0

  -- while the body is written
  pub begun_moments : LeavesOnly old mid (λ image s.
      Recovers image (module_board m (standing_of m manifest old.cells)) × old.sent s)
  begun_moments = leaves_weaker old mid
      (λ image s. Spares (InBank (spare running)) old image s
      × (IsOpen (place_of (spare running)) image → image ≡ old.cells))
      (λ image s. Recovers image (module_board m (standing_of m manifest old.cells)) × old.sent s)
      (leaves_both old mid (Spares (InBank (spare running)) old)
      (λ image s. IsOpen (place_of (spare running)) image → image ≡ old.cells) (wrote.images yes) shut)
      (λ image s both.
      let same = as_before old.cells image m running manifest holds (inside image s both.0)
      (λ opens. let back = both.1 opens in (
        subst (λ (l : List ℕ). IsOpen (place_of (spare running)) l) back opens,
        ap (manifest_octets (spare running)) back,
      )) in
      ((running, manifest, same.0, sym same.1), both.0.1))

  module _ (next : Manifest) (new : View) (is : next.sequence ≡ manifest.sequence + 1) (valid : IsManifest m.capacity next)
      (stands : Stands (manifest_start (spare running)) (manifest_text formats.Two next) mid.cells)
      (sealed : IsSealed (place_of (spare running)) mid)
      (switched : Touches told (InBlock (gate_block (spare running))) mid new) where
    abbrev Moment : List ℕ → List ℕ → Type 0
    Moment image s = OldOrNew old.cells image m manifest next × old.sent s

    text_in : (image : List ℕ) → Keeps (InBlock (gate_block (spare running))) mid.cells image
        → BeginsWithManifest m.capacity (manifest_octets (spare running) image) next
    text_in image keeps = subst (λ (l : List ℕ). BeginsWithManifest m.capacity l next)
        (sym (kept_part (4096 * (gate_block (spare running) + 1)) 131072 mid.cells image keeps
        (λ i lt there. omega (arith, there.1))))
        (manifest_stands (spare running) m.capacity next mid.cells
        (omega (arith, holds.size, (wrote.cells yes).size)) valid stands)

    since : (image : List ℕ) → Keeps (InBlock (gate_block (spare running))) mid.cells image
        → Keeps (InBank (spare running)) old.cells image
    since image keeps = keeps_then old.cells mid.cells image (λ i f. f)
        (λ i g. (g.0, omega (arith, g.1))) (wrote.cells yes) keeps

    -- in all of it
    pub install_moments : LeavesOnly old new Moment
    install_moments = goes_on old mid new Moment Moment
        (leaves_weaker old mid (λ image s. Recovers image (module_board m (standing_of m manifest old.cells)) × old.sent s)
        Moment begun_moments (λ image s was. (inl was.0, was.1)))
        (leaves_weaker mid new (Spares (InBlock (gate_block (spare running))) mid) Moment (switched.images yes)
        (λ image s spares.
        let keeps : Keeps (InBlock (gate_block (spare running))) mid.cells image =
        keeps_wider mid.cells image (λ i. ⊎_elim (λ f. f) (λ p. absurd (sealed.settled i p))) spares.0 in (
          old_or_new old.cells image m running manifest holds (since image keeps) next
              (λ opens. inr (text_in image keeps)) is,
          wrote.silent.back s spares.1,
        )))
        (λ image s x. x)

    -- and once it is done
    pub install_done : IsOpened (place_of (spare running)) new
        → HoldsModule new.cells m (Some (spare running)) next
        × (standing_of m next new.cells ≡ standing_of m next old.cells)
    install_done opened =
        let keeps = switched.cells yes in
        once_open old.cells new.cells m running manifest holds (since new.cells keeps) next
        (record { gate = opened.gate; text = text_in new.cells keeps }) is
