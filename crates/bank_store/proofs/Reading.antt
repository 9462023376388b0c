-- What is read of the factory gate and the factory record.
use Rattle.std.proofs.Common.{◌≡◌, ℕ, ◌≤◌, ◌↔◌, List, length, take, drop, Option, Some, None, Result, Ok, Err, Bool, refl, sym, ◌∙◌, ap, subst, arith}
use Rattle.std.specs.Prelude.{IfOk, IfSome, IfNone, IsOk, IsErr, IsErrOf, is_some, is_err, true, false}
use Rattle.std.specs.Option.{ok_or}
use Rattle.std.proofs.lemmas.Bool.{false≢true}
use Rattle.std.proofs.lemmas.Option.{none-some}
use Rattle.edge_board.specs.Board.{View, Nowhere, Effect, IsHonest}
use Rattle.bank_gate.specs.States.{IsOpen}
use Rattle.lms_sign.specs.declared.key.SignKey.{SignKey}
use Rattle.module_record.specs.KeyRecord.{BeginsWithKeyRecord}
use Rattle.bank_layout.specs.Layout.{factory, record_start}
use Rattle.bank_layout.specs.Recovery.{HoldsKey, Recovers, IsHeld}
use Rattle.bank_layout.specs.Recovery.Holder.{nobody}
use Rattle.module_store.specs.declared.fault.OpenFault.{OpenFault}
use Rattle.module_store.specs.declared.fault.OpenFault.TheVariants as opens
use Rattle.module_store.specs.declared.store.Store.{Store}
use Rattle.module_store.specs.Store.{HoldsNoModule, IsStoreOf, manifest_of}
use Rattle.bank_store.specs.declared.fault.HolderFault.{HolderFault}
use Rattle.bank_store.proofs.Images.{front_tells, front_told}

-- the cells stay the same while the gate and then the front of the record are read
module _ {tc tm : Type 0} (told : tc) (start synced : View) (looked : List ℕ) (honest : IsHonest tc tm start)
    (sync : Effect tc tm Nowhere start synced) (many_blocks : 18 ≤ synced.blocks)
    (same : synced.cells ≡ start.cells) (same_then : looked ≡ synced.cells) (opened : IsOpen factory synced.cells)
    (front : List ℕ) (many : length front ≡ 128) (front_is : front ≡ take (length front) (drop 4096 looked)) where
  front_at : front ≡ take 128 (drop record_start start.cells)
  front_at = front_is ∙ ap (λ (n : ℕ). take n (drop 4096 looked)) many
      ∙ ap (λ (l : List ℕ). take 128 (drop 4096 l)) (same_then ∙ same)

  holds : (key : SignKey) → BeginsWithKeyRecord front key → HoldsKey start.cells key
  holds key begins = record {
    size = omega (arith, many_blocks, sync.blocks, honest.size told);
    gate = subst (λ (l : List ℕ). IsOpen factory l) same opened;
    text = front_tells start.cells front key front_at begins;
  }

  module _ (result : Option SignKey)
      (spelled : (key : SignKey) → (result ≡ Some key) ↔ BeginsWithKeyRecord front key) where
    pub key_read : IfSome result (λ key. HoldsKey start.cells key)
    key_read = elim result as (λ r. r ≡ result → IfSome r (λ key. HoldsKey start.cells key)) [
      | Some key ↦ λ is. holds key ((spelled key).0 (sym is))
      | None ↦ λ is. tt
    ] refl

    pub no_key_read : IfNone result ((key : SignKey) → ¬ HoldsKey start.cells key)
    no_key_read = elim result as (λ r. r ≡ result → IfNone r ((key : SignKey) → ¬ HoldsKey start.cells key)) [
      | Some key ↦ λ is. tt
      | None ↦ λ is key holds.
          none-some key (is ∙ (spelled key).1 (front_told start.cells front key front_at holds.text))
    ] refl

-- what is answered of the key that was found
module _ (cells : List ℕ) (holder : Option SignKey) where
  pub held_by_key : IfSome holder (λ key. HoldsKey cells key) → is_some holder ≡ true → IsHeld cells
  held_by_key = elim holder as (λ h. IfSome h (λ key. HoldsKey cells key) → is_some h ≡ true → IsHeld cells) [
    | Some key ↦ λ holds is free. free.0 key holds
    | None ↦ λ _ is. absurd (false≢true is)
  ]

  pub held_by_no_key : IfNone holder ((key : SignKey) → ¬ HoldsKey cells key) → is_some holder ≡ false
      → (key : SignKey) → ¬ HoldsKey cells key
  held_by_no_key = elim holder as (λ h. IfNone h ((key : SignKey) → ¬ HoldsKey cells key) → is_some h ≡ false
      → (key : SignKey) → ¬ HoldsKey cells key) [
        | Some key ↦ λ _ is. absurd (false≢true (sym is))
        | None ↦ λ none is. none
      ]

-- and then of a module
module_found : (cells : List ℕ) (opened : Result Store OpenFault) → IfOk opened (λ s. IsStoreOf s cells)
    → IsOk opened → ¬ HoldsNoModule cells
module_found cells (Ok s) holds is nothing = nothing s.module s.running (manifest_of s) holds
module_found cells (Err e) holds is nothing = absurd (false≢true is)

pub no_module_found : (cells : List ℕ) (opened : Result Store OpenFault)
    → (IsErrOf opened opens.NotAModule → HoldsNoModule cells) → (told : Result Bool HolderFault)
    → IfOk told (λ held. held ≡ false → IsErrOf opened opens.NotAModule)
    → IfOk told (λ held. held ≡ false → HoldsNoModule cells)
no_module_found cells opened nothing (Ok b) none = λ is. nothing (none is)
no_module_found cells opened nothing (Err e) none = tt

pub some_module_found : (cells : List ℕ) (opened : Result Store OpenFault) → IfOk opened (λ s. IsStoreOf s cells)
    → (told : Result Bool HolderFault) → IfOk told (λ held. held ≡ true → IsOk opened)
    → IfOk told (λ held. held ≡ true → ¬ HoldsNoModule cells)
some_module_found cells opened holds (Ok b) held = λ is. module_found cells opened holds (held is)
some_module_found cells opened holds (Err e) held = tt

module _ {E : Type 0} (cells looked : List ℕ) (same : looked ≡ cells) (no_key : (key : SignKey) → ¬ HoldsKey cells key)
    (result : Result Bool E) (held : IfOk result (λ b. b ≡ true → ¬ HoldsNoModule looked))
    (none : IfOk result (λ b. b ≡ false → HoldsNoModule looked)) where
  free : HoldsNoModule looked → Recovers cells nobody
  free nothing = (no_key, subst HoldsNoModule same nothing)

  held_or_free : (b : Bool) → (b ≡ true → ¬ HoldsNoModule looked) → (b ≡ false → HoldsNoModule looked)
      → ((b ≡ true) ↔ IsHeld cells) × ((b ≡ false) ↔ Recovers cells nobody)
  held_or_free true some nothing = (
    (λ is nobody_holds. some refl (subst HoldsNoModule (sym same) nobody_holds.1), λ _. refl),
    (λ is. absurd (false≢true (sym is)), λ nobody_holds. absurd (some refl (subst HoldsNoModule (sym same) nobody_holds.1))),
  )
  held_or_free false some nothing = (
    (λ is. absurd (false≢true is), λ is_held. absurd (is_held (free (nothing refl)))),
    (λ is. free (nothing refl), λ _. refl),
  )

  pub held_where_true : IfOk result (λ b. (b ≡ true) ↔ IsHeld cells)
  held_where_true = elim result as (λ r. IfOk r (λ b. b ≡ true → ¬ HoldsNoModule looked)
      → IfOk r (λ b. b ≡ false → HoldsNoModule looked) → IfOk r (λ b. (b ≡ true) ↔ IsHeld cells)) [
        | Ok b ↦ λ some nothing. (held_or_free b some nothing).0
        | Err e ↦ λ _ _. tt
      ] held none

  pub free_where_false : IfOk result (λ b. (b ≡ false) ↔ Recovers cells nobody)
  free_where_false = elim result as (λ r. IfOk r (λ b. b ≡ true → ¬ HoldsNoModule looked)
      → IfOk r (λ b. b ≡ false → HoldsNoModule looked) → IfOk r (λ b. (b ≡ false) ↔ Recovers cells nobody)) [
        | Ok b ↦ λ some nothing. (held_or_free b some nothing).1
        | Err e ↦ λ _ _. tt
      ] held none

pub not_a_key : {E : Type 0} (cells : List ℕ) (holder : Option SignKey) (e : E) (result : Result SignKey E)
    → result ≡ ok_or holder e → IfNone holder ((key : SignKey) → ¬ HoldsKey cells key) → IsErrOf result e
    → (key : SignKey) → ¬ HoldsKey cells key
not_a_key cells (Some key) e result value none is = absurd (false≢true (ap is_err (sym value ∙ is)))
not_a_key cells None e result value none is = none

pub refuses : {E : Type 0} (cells : List ℕ) (holder : Option SignKey) (e : E) (result : Result SignKey E)
    → result ≡ ok_or holder e → IfSome holder (λ key. HoldsKey cells key)
    → ((key : SignKey) → ¬ HoldsKey cells key) → IsErr result
refuses cells (Some key) e result value some none = absurd (none key some)
refuses cells None e result value some none = ap is_err value
