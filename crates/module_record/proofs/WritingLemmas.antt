-- What is put of a module has room in its elements.
use Rattle.std.proofs.Common.{◌≡◌, ℕ, ◌+◌, ◌^◌, ◌<◌, ◌≤◌, List, [], ◌∷◌, ◌++◌, length, Option, Some, None, sym, ap, ◌∙◌, subst, arith, get_or, zero, suc}
use Rattle.std.specs.Prelude.{IfSome, OnOk, Result, Ok, Err, option_map}
use Rattle.std.specs.List.{flat_map}
use Rattle.std.proofs.lemmas.List.{length-append}
use Rattle.der_core.specs.Element.{enc, HasRoom}
use Rattle.der_core.specs.Shapes.{text_if}
use Rattle.der_core.proofs.Places.{length-enc}
use Rattle.cert_fields.specs.Anchor.{TrustAnchor}
use Rattle.cert_fields.specs.Constraints.{ContentConstraint, constraints_text}
use Rattle.module_record.specs.ModuleRecord.{tagged_constraints, anchor_contents, anchor_text, module_contents, HasLimits, HasShortSubjects}
use Rattle.module_record.specs.declared.module.Module.{Module}
use Rattle.module_record.proofs.AnchorLaws.{tagged_text}
use Rattle.module_record.proofs.RecordLaws.{module_short}

-- where an anchor's contents have room, so have its constraints
pub constraints_room : (a : TrustAnchor) (text : Option (List ℕ)) → HasRoom (anchor_contents a)
    → text ≡ option_map constraints_text a.constraints → IfSome text HasRoom
constraints_room a text room is =
    let P : Option (List ℕ) → Type 0 = λ t. IfSome t HasRoom in
    subst P (sym is) (of_tail a.constraints
    (omega (
      arith,
      room,
      length-append a.subject (enc 0x04 a.key_id ++ (enc 0x04 a.key ++ text_if tagged_constraints a.constraints)),
      length-append (enc 0x04 a.key_id) (enc 0x04 a.key ++ text_if tagged_constraints a.constraints),
      length-append (enc 0x04 a.key) (text_if tagged_constraints a.constraints),
    )))
  where
    of_tail : (c : Option (List ContentConstraint)) → HasRoom (text_if tagged_constraints c)
        → IfSome (option_map constraints_text c) HasRoom
    of_tail None room = tt
    of_tail (Some entries) room = omega (arith, room, length-enc 0xA0 (constraints_text entries))

-- an anchor's contents, put one part after the other
pub anchor_fits : (a : TrustAnchor) (text : Option (List ℕ)) (start first second third all subject id key : List ℕ)
    → HasRoom (anchor_contents a) → start ≡ [] → subject ≡ a.subject → id ≡ a.key_id → key ≡ a.key
    → text ≡ option_map constraints_text a.constraints → first ≡ start ++ subject → second ≡ first ++ enc 0x04 id
    → third ≡ second ++ enc 0x04 key → all ≡ third ++ text_if (enc 0xA0) text → length all < 2 ^ 32
anchor_fits a text start first second third all subject id key room start_is subject_is id_is key_is text_is
    first_is second_is third_is all_is =
    let tail = ap (text_if (λ (o : List ℕ). enc 0xA0 o)) text_is ∙ sym (tagged_text a.constraints) in
    omega (
      arith,
      room,
      length-append a.subject (enc 0x04 a.key_id ++ (enc 0x04 a.key ++ text_if tagged_constraints a.constraints)),
      length-append (enc 0x04 a.key_id) (enc 0x04 a.key ++ text_if tagged_constraints a.constraints),
      length-append (enc 0x04 a.key) (text_if tagged_constraints a.constraints),
      ap (λ (o : List ℕ). length o) start_is,
      ap (λ (o : List ℕ). length o) subject_is,
      ap (λ (o : List ℕ). length (enc 0x04 o)) id_is,
      ap (λ (o : List ℕ). length (enc 0x04 o)) key_is,
      ap (λ (o : List ℕ). length o) tail,
      ap (λ (o : List ℕ). length o) first_is,
      length-append start subject,
      ap (λ (o : List ℕ). length o) second_is,
      length-append first (enc 0x04 id),
      ap (λ (o : List ℕ). length o) third_is,
      length-append second (enc 0x04 key),
      ap (λ (o : List ℕ). length o) all_is,
      length-append third (text_if (λ (o : List ℕ). enc 0xA0 o) text),
    )

-- one of the texts is no longer than all of them
pub one_of_all : {V : Type 0} (text : V → List ℕ) (values : List V) (i : ℕ) (d : V) → i < length values
    → length (text (get_or values i d)) ≤ length (flat_map text values)
one_of_all text [] i d lt = absurd (omega (arith, lt))
one_of_all text (v ∷ vs) zero d lt = omega (arith, length-append (text v) (flat_map text vs))
one_of_all text (v ∷ vs) (suc i) d lt =
    omega (arith, one_of_all text vs i d (omega (arith, lt)), length-append (text v) (flat_map text vs))

-- and so has each anchor, where all of them have
pub item_room : (anchors : List TrustAnchor) (i : ℕ) (a : TrustAnchor) → i < length anchors → a ≡ get_or anchors i a
    → HasRoom (flat_map anchor_text anchors) → HasRoom (anchor_contents a)
item_room anchors i a lt is room =
    let le = subst (λ (x : TrustAnchor). length (anchor_text x) ≤ length (flat_map anchor_text anchors)) (sym is)
    (one_of_all anchor_text anchors i a lt) in
    omega (arith, room, le, length-enc 0x30 (anchor_contents a))

-- what was put of a module with short subjects
pub few_put : {T E : Type 0} (result : Result T E) (m : Module) (contents : List ℕ) (now before : ℕ)
    → contents ≡ module_contents m → OnOk result (now ≤ before + length contents + 6) → HasLimits m
    → HasShortSubjects m → OnOk result (now ≤ before + 65536)
few_put (Ok x) m contents now before is most limits short =
    omega (arith, most, ap (λ (l : List ℕ). length l) is, module_short m limits short)
few_put (Err e) m contents now before is most limits short = tt
