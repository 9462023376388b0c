-- What a board is to a module, by its record and its banks.
use Rattle.std.proofs.Common.{◌≡◌, ◌↔◌, ◌≤◌, ◌++◌, ℕ, List, length, Option, None, Some, Result, Ok, Err, refl, sym, subst, ◌∙◌}
use Rattle.std.specs.Prelude.{IfOk, IsErr}
use Rattle.std.proofs.lemmas.Option.{none-some, same_Some}
use Rattle.bank_gate.specs.States.{IsOpen}
use Rattle.module_record.specs.declared.module.Module.{Module}
use Rattle.module_record.specs.ModuleRecord.{IsModule, BeginsWithModuleRecord, module_text}
use Rattle.bank_layout.specs.declared.bank.Bank.{Bank}
use Rattle.bank_layout.specs.Layout.{board_size, factory, place_of, record_octets}
use Rattle.bank_layout.specs.Manifest.{Manifest}
use Rattle.bank_layout.specs.Recovery.{HoldsModule, IsInForce, IsOver}
use Rattle.module_store.specs.Store.{HoldsNoModule, IsOwnedBy, IsStoreOf, manifest_of}
use Rattle.module_store.specs.declared.store.Store.{Store}
use Rattle.module_store.proofs.Choices.{opened_over}

-- ---- the record

module _ (image octets : List ℕ) (is : octets ≡ record_octets image) (found : Option Module)
    (spelled : (m : Module) → (found ≡ Some m) ↔ BeginsWithModuleRecord octets m) where
  of_owner : (m : Module) → IsOwnedBy image m → found ≡ Some m
  of_owner m own = (spelled m).1 (subst (λ (l : List ℕ). BeginsWithModuleRecord l m) (sym is) own.text)

  -- a board without a record is no module's
  pub no_record : ((m : Module) → found ≡ Some m → ⊥) → (m : Module)
      → ◌≡◌ {A = Option Module} None (Some m) ↔ IsOwnedBy image m
  no_record none m = (λ same. absurd (none-some m same), λ own. absurd (none m (of_owner m own)))

  module _ (owner : Module) (read : found ≡ Some owner) where
    -- nor is one that is too small for the module of the record
    pub too_small : ¬ (board_size owner.capacity ≤ length image) → (m : Module)
        → ◌≡◌ {A = Option Module} None (Some m) ↔ IsOwnedBy image m
    too_small small m = (
      λ same. absurd (none-some m same),
      λ own. absurd (small (subst (λ (x : Module). board_size x.capacity ≤ length image)
          (same_Some m owner (sym (of_owner m own) ∙ read)) own.size)),
    )

    -- any other one is the module's of the record
    pub is_owner : IsOpen factory image → board_size owner.capacity ≤ length image → (m : Module)
        → ◌≡◌ {A = Option Module} (Some owner) (Some m) ↔ IsOwnedBy image m
    is_owner gate size m = (
      λ same. subst (λ (x : Module). IsOwnedBy image x) (same_Some owner m same) (record {
        size = size;
        gate = gate;
        text = subst (λ (l : List ℕ). BeginsWithModuleRecord l owner) is ((spelled owner).0 read);
      }),
      λ own. sym read ∙ of_owner m own,
    )

-- ---- who holds the image

owned : (image : List ℕ) (m : Module) (running : Option Bank) (manifest : Manifest)
    → HoldsModule image m running manifest → IsOwnedBy image m
owned image m running manifest holds = record { size = holds.size; gate = holds.gate; text = holds.text }

-- where no record is that of an owner, no module holds the image
pub held_by_none : (image : List ℕ) (found : Option Module) → ((m : Module) → (found ≡ Some m) ↔ IsOwnedBy image m)
    → ((m : Module) → found ≡ Some m → ⊥) → HoldsNoModule image
held_by_none image found owners none m running manifest holds =
    none m ((owners m).1 (owned image m running manifest holds))

-- no octets begin with the records of two modules
abbrev pub HasOneRecord : Type 0
HasOneRecord = (m n : Module) (after_m after_n : List ℕ) → IsModule m → IsModule n
    → module_text m ++ after_m ≡ module_text n ++ after_n → (m ≡ n) × (after_m ≡ after_n)

-- no module holds the image where one of the owner's open gates isn't over a manifest
pub held_by_none_over : HasOneRecord → (image : List ℕ) (owner : Module) → IsOwnedBy image owner → (bank : Bank)
    → IsOpen (place_of bank) image → ((m : Manifest) → ¬ IsOver owner.capacity image bank m) → HoldsNoModule image
held_by_none_over one image owner is bank opens none m running manifest holds =
    let same : m ≡ owner =
    (one m owner holds.text.1 is.text.1 holds.text.0 is.text.0 (sym holds.text.2 ∙ is.text.2)).0 in
    let over = opened_over m.capacity image running manifest bank holds.in_force opens in
    none over.0 (subst (λ (x : Module). IsOver x.capacity image bank over.0) same over.1)

-- the store that says what is in force is the owner's
pub store_in_force : (image : List ℕ) (owner : Module) → IsOwnedBy image owner → (s : Store) → s.module ≡ owner
    → IsInForce owner.capacity image s.running (manifest_of s) → IsStoreOf s image
store_in_force image owner is s same force =
    subst (λ (m : Module). HoldsModule image m s.running (manifest_of s)) (sym same)
    (record { size = is.size; gate = is.gate; text = is.text; in_force = force })

-- a store is only where a module holds the image
pub no_store : {E : Type 0} (image : List ℕ) (result : Result Store E) → IfOk result (λ s. IsStoreOf s image)
    → HoldsNoModule image → IsErr result
no_store image (Ok s) holds none = absurd (none s.module s.running (manifest_of s) holds)
no_store image (Err fault) holds none = refl
