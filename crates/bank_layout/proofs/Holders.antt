-- An image has one holder at most.
use Rattle.std.proofs.Common.{◌≡◌, ℕ, List, ◌++◌, Option, refl, sym, ◌∙◌, ap, subst}
use Rattle.key_state.specs.KeyBlock.{row_of}
use Rattle.lms_sign.specs.declared.key.SignKey.{SignKey}
use Rattle.lms_sign.specs.PublicKeys.{leaf_count, IsSignKey}
use Rattle.module_record.specs.KeyRecord.{key_record_text, BeginsWithKeyRecord}
use Rattle.module_record.specs.ModuleRecord.{IsModule, module_text, BeginsWithModuleRecord}
use Rattle.module_record.specs.declared.module.Module.{Module}
use Rattle.bank_layout.specs.declared.bank.Bank.{Bank}
use Rattle.bank_layout.specs.Layout.{record_octets}
use Rattle.bank_layout.specs.Manifest.{Manifest}
use Rattle.bank_layout.specs.Recovery.{IsInForce, Standing, standing_of, Holder, HoldsModule, Recovers}
use Rattle.bank_layout.specs.Recovery.Holder.{nobody, key_board, module_board}
use Rattle.bank_layout.proofs.Running.{one_in_force, one_running}

-- Octets begin with the record of one key at most, with that of one module at most, and never with both.
pub record RecordsAreOne : Type 0 where
  pub keys : (k l : SignKey) (after_k after_l : List ℕ) → IsSignKey k → IsSignKey l
      → key_record_text k ++ after_k ≡ key_record_text l ++ after_l → (k ≡ l) × (after_k ≡ after_l)
  pub modules : (m n : Module) (after_m after_n : List ℕ) → IsModule m → IsModule n
      → module_text m ++ after_m ≡ module_text n ++ after_n → (m ≡ n) × (after_m ≡ after_n)
  pub apart : (octets : List ℕ) (m : Module) (key : SignKey) → BeginsWithModuleRecord octets m
      → ¬ BeginsWithKeyRecord octets key

module _ (records : RecordsAreOne) (image : List ℕ) where
  one_key : (k l : SignKey) → BeginsWithKeyRecord (record_octets image) k → BeginsWithKeyRecord (record_octets image) l
      → k ≡ l
  one_key k l a b = (records.keys k l a.1 b.1 a.0 b.0 (sym a.2 ∙ b.2)).0

  same_module : (m n : Module) (first second : Option Bank) (x y : Manifest) → HoldsModule image m first x
      → HoldsModule image n second y → m ≡ n
  same_module m n first second x y a b =
      (records.modules m n a.text.1 b.text.1 a.text.0 b.text.0 (sym a.text.2 ∙ b.text.2)).0

  pub one_store : (m n : Module) (first second : Option Bank) (x y : Manifest) → HoldsModule image m first x
      → HoldsModule image n second y → (m ≡ n) × (first ≡ second) × (x ≡ y)
  one_store m n first second x y a b =
      let same = same_module m n first second x y a b in
      let in_force = subst (λ (k : Module). IsInForce k.capacity image first x) same a.in_force in (
        same,
        one_running image n.capacity first second x y in_force b.in_force,
        one_in_force image n.capacity first second x y in_force b.in_force,
      )

  pub one_holder : (first second : Holder) → Recovers image first → Recovers image second → first ≡ second
  one_holder nobody nobody a b = refl
  one_holder nobody (key_board key row) a b = absurd (a.0 key b.0)
  one_holder (key_board key row) nobody a b = absurd (b.0 key a.0)
  one_holder nobody (module_board m standing) a b = absurd (a.1 m b.0 b.1 b.2)
  one_holder (module_board m standing) nobody a b = absurd (b.1 m a.0 a.1 a.2)
  one_holder (key_board key row) (module_board m standing) a b =
      absurd (records.apart (record_octets image) m key b.2.text a.0.text)
  one_holder (module_board m standing) (key_board key row) a b =
      absurd (records.apart (record_octets image) m key a.2.text b.0.text)
  one_holder (key_board k row_k) (key_board l row_l) a b =
      ap (λ (row : List ℕ). key_board k row) a.1
      ∙ ap (λ (key : SignKey). key_board key (row_of (leaf_count key) image))
      (one_key k l a.0.text b.0.text)
      ∙ sym (ap (λ (row : List ℕ). key_board l row) b.1)
  one_holder (module_board m standing_m) (module_board n standing_n) a b =
      let same = one_store m n a.0 b.0 a.1 b.1 a.2 b.2 in
      ap (λ (s : Standing). module_board m s) a.3
      ∙ ap (λ (x : Manifest). module_board m (standing_of m x image)) same.2
      ∙ ap (λ (k : Module). module_board k (standing_of k b.1 image)) same.0
      ∙ sym (ap (λ (s : Standing). module_board n s) b.3)
