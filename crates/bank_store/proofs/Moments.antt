-- What a power cut leaves in a format, at each of its steps.
use Rattle.std.proofs.Common.{◌≡◌, ◌⊎◌, inl, inr, ⊎_elim, ℕ, ◌+◌, ◌*◌, ◌<◌, ◌≤◌, List, length, sym, ◌∙◌, ap, subst, arith}
use Rattle.std.proofs.lemmas.Bool.{cases_eq}
use Rattle.edge_board.specs.Board.{View, Nowhere, InBlock, Keeps, AllRead, IsHonest, IsSettled, cell}
use Rattle.edge_board.specs.Runs.{Touches, LeavesOnly}
use Rattle.edge_board.proofs.RunLemmas.{keeps_all, keeps_wider, leaves_weaker, goes_on, only_start, touch_then, touch_wider}
use Rattle.bank_gate.specs.Places.{gate_at}
use Rattle.bank_gate.specs.States.{IsOpen, IsOpened, IsSealed, Stands}
use Rattle.bank_gate.specs.Writing.{WritesBehind, RewriteMoment}
use Rattle.bank_gate.proofs.WritingLemmas.{rewrite_written, rewrite_opened}
use Rattle.der_core.proofs.Places.{length-enc}
use Rattle.key_state.specs.KeyBlock.{row_start}
use Rattle.lms_sign.specs.declared.key.SignKey.{SignKey}
use Rattle.lms_sign.specs.PublicKeys.{IsSignKey}
use Rattle.module_record.specs.KeyRecord.{key_record_text}
use Rattle.module_record.specs.declared.module.Module.{Module}
use Rattle.module_record.specs.ModuleRecord.{module_text, module_contents, HasLimits, IsModule}
use Rattle.bank_layout.specs.declared.bank.Bank.{Bank}
use Rattle.bank_layout.specs.declared.bank.Bank.TheVariants as banks
use Rattle.bank_layout.specs.Layout.{factory, record_start, InKeyBody, InKeyBoard, board_size, place_of}
use Rattle.bank_layout.specs.Recovery.{Recovers}
use Rattle.bank_layout.specs.Recovery.Holder.{nobody}
use Rattle.bank_store.specs.Formats.{FormatMoment, RecoversToNewKey, RecoversToNewModule}
use Rattle.bank_store.proofs.Images.{recovers_new}

-- ---- formats of any holder

module _ {told : Type 0} (t : told) (part : ℕ → Type 0) (made : List ℕ → Type 0) (start : View)
    (settled : IsSettled start) where
  -- before anything is written
  pub unwritten : (new : View) → Touches told Nowhere start new → LeavesOnly start new (FormatMoment part made start)
  unwritten new touches =
      leaves_weaker start new (λ image s. (image ≡ start.cells) × start.sent s) (FormatMoment part made start)
      (only_start start new t settled touches)
      (λ image s h. (
        record {
          held = λ held. h.0;
          free = λ free. inl (subst (λ (l : List ℕ). Recovers l nobody) (sym h.0) free);
          others = subst (λ (l : List ℕ). Keeps part start.cells l) (sym h.0) (keeps_all start.cells);
        },
        h.1,
      ))

  -- while the factory's bank is written anew, on a board that nobody holds
  module _ {body : ℕ → Type 0} (synced : View) (free : Recovers start.cells nobody)
      (looked : Touches told Nowhere start synced) (same : synced.cells ≡ start.cells)
      (inside : (i : ℕ) → InBlock 0 i ⊎ body i → part i) where
    moment : (written : List ℕ → Type 0) → ((image : List ℕ) → written image → IsOpen factory image → made image)
        → (image s : List ℕ) → RewriteMoment factory body written synced image s → FormatMoment part made start image s
    moment written makes image s m = (
      record {
        held = λ held. absurd (held free);
        free = λ none. elim (cases_eq (cell image (gate_at factory)) 15) [
          | inl opened ↦ ⊎_elim
              (λ is. inl (subst (λ (l : List ℕ). Recovers l nobody) (sym (is ∙ same)) free))
              (λ w. inr (makes image w opened)) (m.0.opened opened)
          | inr shut ↦ inl (λ key holds. shut holds.gate, λ m running manifest holds. shut holds.gate)
        ];
        others = keeps_wider start.cells image inside
            (subst (λ (l : List ℕ). Keeps (λ i. InBlock 0 i ⊎ body i) l image) same m.0.others);
      },
      looked.silent.back s m.1,
    )

    module _ (synced_settled : IsSettled synced) where
      pub at_body : (written : View) → WritesBehind told factory body synced written
          → LeavesOnly start written (FormatMoment part made start)
      at_body written writes =
          goes_on start synced written (FormatMoment part made start) (RewriteMoment factory body (λ image. ⊥) synced)
          (unwritten synced looked)
          (rewrite_written factory synced (λ told. synced_settled) t (λ image. ⊥) written writes)
          (moment (λ image. ⊥) (λ image none. absurd none))

      pub at_gate : (written new : View) → WritesBehind told factory body synced written → IsSealed factory written
          → Touches told (InBlock 0) written new
          → ((image : List ℕ) → Keeps (InBlock 0) written.cells image → IsOpen factory image → made image)
          → LeavesOnly start new (FormatMoment part made start)
      at_gate written new writes sealed switch makes =
          goes_on start synced new (FormatMoment part made start)
          (RewriteMoment factory body (Keeps (InBlock 0) written.cells) synced) (unwritten synced looked)
          (rewrite_opened factory synced (λ told. synced_settled) t written new writes sealed switch)
          (moment (Keeps (InBlock 0) written.cells) makes)

-- ---- the format for a key

-- the body stands while the gate is opened
module _ {told tm : Type 0} (t : told) (key : SignKey) (valid : IsSignKey key) (octets : List ℕ)
    (text : octets ≡ key_record_text key) (written : View) (honest : IsHonest told tm written)
    (blocks : 18 ≤ written.blocks) (stands : Stands record_start octets written.cells)
    (erased : AllRead row_start 4096 255 written.cells) where
  pub gate_leaves : (image : List ℕ) → Keeps (InBlock 0) written.cells image → IsOpen factory image
      → RecoversToNewKey image key
  gate_leaves image keeps opened = recovers_new key image valid (omega (arith, keeps.size, honest.size t, blocks))
      opened
      (λ i lt. keeps.each (record_start + i) (λ within. omega (arith, within.1))
      ∙ stands i (subst (λ (l : List ℕ). i < length l) (sym text) lt) ∙ ap (λ (l : List ℕ). cell l i) text)
      (λ i within. keeps.each i (λ gate. omega (arith, gate.1, within.0)) ∙ erased i within)

  pub formatted : (new : View) → Touches told (InBlock 0) written new → IsOpened factory new
      → RecoversToNewKey new.cells key
  formatted new switch opened = gate_leaves new.cells (switch.cells t) opened.gate

-- one of the positions of blocks 0 to 17, by its parts
pub in_key_board : (i : ℕ) → InBlock 0 i ⊎ InKeyBody i → InKeyBoard i
in_key_board i = ⊎_elim (λ gate. omega (arith, gate.1)) (λ body. omega (arith, body.1))

-- ---- the format for a module

-- a module whose record fits blocks 1 to 16 has one
pub is_module : (m : Module) → HasLimits m → length (module_text m) ≤ 65536 → IsModule m
is_module m limits fits = record { limits = limits; fits = omega (arith, fits, length-enc 0x30 (module_contents m)) }

-- where all of it stands, it recovers to the new module
abbrev Empties : Module → Type 0
Empties m = (image : List ℕ) → board_size m.capacity ≤ length image → IsOpen factory image
    → Stands record_start (module_text m) image → AllRead row_start 4096 255 image
    → ((bank : Bank) → ¬ IsOpen (place_of bank) image) → RecoversToNewModule image m

module _ {told tm : Type 0} (t : told) (m : Module) (empty : Empties m) (octets : List ℕ)
    (text : octets ≡ module_text m) (written : View) (honest : IsHonest told tm written)
    (blocks : 84 + 2 * m.capacity ≤ written.blocks) (fits : length (module_text m) ≤ 65536)
    (stands : Stands record_start octets written.cells) (erased : AllRead row_start 4096 255 written.cells)
    (shut : (bank : Bank) → ¬ IsOpen (place_of bank) written.cells) where
  shut_there : (image : List ℕ) → Keeps (InBlock 0) written.cells image → (bank : Bank)
      → ¬ IsOpen (place_of bank) image
  shut_there image keeps banks.Zero opened =
      shut banks.Zero (sym (keeps.each (gate_at (place_of banks.Zero)) (λ gate. omega (arith, gate.1))) ∙ opened)
  shut_there image keeps banks.One opened =
      shut banks.One (sym (keeps.each (gate_at (place_of banks.One)) (λ gate. omega (arith, gate.1))) ∙ opened)

  pub module_leaves : (image : List ℕ) → Keeps (InBlock 0) written.cells image → IsOpen factory image
      → RecoversToNewModule image m
  module_leaves image keeps opened = empty image (omega (arith, keeps.size, honest.size t, blocks)) opened
      (λ i lt. keeps.each (record_start + i) (λ within. omega (arith, within.1))
      ∙ stands i (subst (λ (l : List ℕ). i < length l) (sym text) lt) ∙ ap (λ (l : List ℕ). cell l i) text)
      (λ i within. keeps.each i (λ gate. omega (arith, gate.1, within.0)) ∙ erased i within)
      (shut_there image keeps)

  pub module_formatted : (new : View) → Touches told (InBlock 0) written new → IsOpened factory new
      → RecoversToNewModule new.cells m
  module_formatted new switch opened = module_leaves new.cells (switch.cells t) opened.gate

-- ---- what all calls of a format have touched

pub body_touches : {told : Type 0} {body : ℕ → Type 0} (part : ℕ → Type 0) (start synced written : View)
    → ((i : ℕ) → InBlock 0 i ⊎ body i → part i) → Touches told Nowhere start synced
    → WritesBehind told factory body synced written → Touches told part start written
body_touches part start synced written inside looked writes = touch_then start synced written
    (touch_wider start synced (λ t i none. absurd none) looked)
    (touch_wider synced written
    (λ t i. ⊎_elim (λ gate. inside i (inl (gate.0, omega (arith, gate.1)))) (λ body. inside i (inr body)))
    writes.touches)

pub format_touches : {told : Type 0} {body : ℕ → Type 0} (part : ℕ → Type 0) (start synced written new : View)
    → ((i : ℕ) → InBlock 0 i ⊎ body i → part i) → Touches told Nowhere start synced
    → WritesBehind told factory body synced written → Touches told (InBlock 0) written new
    → Touches told part start new
format_touches part start synced written new inside looked writes switch =
    touch_then start written new (body_touches part start synced written inside looked writes)
    (touch_wider written new (λ t i gate. inside i (inl gate)) switch)
