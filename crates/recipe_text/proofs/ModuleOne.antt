-- A module recipe has one module.
use Rattle.std.proofs.Common.{◌≡◌, ℕ, List, ◌∷◌, [], codes, Option, Some, None, refl, sym, ◌∙◌, ap, subst}
use Rattle.cert_fields.specs.Anchor.{TrustAnchor}
use Rattle.cert_fields.specs.Constraints.{ContentConstraint, AreConstraints, constraints_text}
use Rattle.der_core.proofs.Numbers.{some_is}
use Rattle.lms_sign.specs.declared.key.SignKey.{SignKey}
use Rattle.module_record.specs.declared.module.Module.{Module}
use Rattle.recipe_text.specs.Lines.{IsHex, spaced}
use Rattle.recipe_text.specs.ModuleReading.{AnchorWords, kind_name, kind_of}
use Rattle.recipe_text.specs.ModuleRecipe.{ModuleEntry, ModuleRecipe, IsModuleLine, IsModuleValue, IsAnchorText}
use Rattle.recipe_text.specs.ModuleRecipe.{IsAnchorConstraints, module_parts, module_rules}
use Rattle.recipe_text.specs.ModuleRecipe.ModuleEntry.{HwType, Serial, Capacity, OwnKey, Community, Kind, Anchored}
use Rattle.recipe_text.specs.Reading.{cut}
use Rattle.recipe_text.specs.Words.{name_of}
use Rattle.recipe_text.proofs.Anchors.{dash_is_no_hex, words_again}
use Rattle.recipe_text.proofs.Cuts.{cut_again}
use Rattle.recipe_text.proofs.Decimals.{one_number}
use Rattle.recipe_text.proofs.KeyLines.{one_key}
use Rattle.recipe_text.proofs.ModuleLines.{named_kind, no_space, by_kind, line_value}
use Rattle.recipe_text.proofs.ModulePlans.{same_plan}
use Rattle.recipe_text.proofs.OneSaid.{one_hex, one_hex64, one_oid, one_recipe}

-- constraints with one text are one
abbrev pub ConstraintsHaveOneText : Type 0
ConstraintsHaveOneText =
    (these those : List ContentConstraint) → AreConstraints these → AreConstraints those
    → constraints_text these ≡ constraints_text those → these ≡ those

module _ (once : ConstraintsHaveOneText) where
  -- ---- anchors

  one_constraints : (word : List ℕ) (a b : Option (List ContentConstraint)) → IsAnchorConstraints word a
      → IsAnchorConstraints word b → a ≡ b
  one_constraints word None None x y = refl
  one_constraints word None (Some those) x y = absurd (dash_is_no_hex word (constraints_text those) x y.0)
  one_constraints word (Some these) None x y = absurd (dash_is_no_hex word (constraints_text these) y x.0)
  one_constraints word (Some these) (Some those) x y =
      ap (λ (entries : List ContentConstraint). Some entries)
      (once these those x.1 y.1 (one_hex word (constraints_text these) (constraints_text those) x.0 y.0))

  one_anchor : (text : List ℕ) (a b : TrustAnchor) → IsAnchorText text a → IsAnchorText text b → a ≡ b
  one_anchor text a b x y =
      let words = some_is _ _ (sym (words_again text a x) ∙ words_again text b y) in
      let name : a.subject ≡ b.subject =
      x.is_name.stands ∙ ap (λ (w : AnchorWords). name_of w.name) words ∙ sym y.is_name.stands in
      let id : a.key_id ≡ b.key_id =
      one_hex y.id a.key_id b.key_id
      (subst (λ (w : List ℕ). IsHex w a.key_id) (ap (λ (w : AnchorWords). w.id) words) x.is_id.hex) y.is_id.hex in
      let key : a.key ≡ b.key =
      one_hex y.key a.key b.key
      (subst (λ (w : List ℕ). IsHex w a.key) (ap (λ (w : AnchorWords). w.key) words) x.is_key.hex) y.is_key.hex in
      let constraints : a.constraints ≡ b.constraints =
      one_constraints y.constraints a.constraints b.constraints
      (subst (λ (w : List ℕ). IsAnchorConstraints w a.constraints)
      (ap (λ (w : AnchorWords). w.constraints) words) x.are_constraints) y.are_constraints in
      λ i. record { subject = name i; key_id = id i; key = key i; constraints = constraints i }

  -- ---- lines

  one_value : (text : List ℕ) (e f : ModuleEntry) → kind_of e ≡ kind_of f → IsModuleValue text e
      → IsModuleValue text f → e ≡ f
  one_value text (HwType a) (HwType b) k x y = ap (λ (o : List ℕ). HwType o) (one_oid text a b x y)
  one_value text (Serial a) (Serial b) k x y = ap (λ (o : List ℕ). Serial o) (one_hex64 text a b x y)
  one_value text (Capacity m) (Capacity n) k x y = ap (λ (v : ℕ). Capacity v) (one_number text m n x.number y.number)
  one_value text (OwnKey a) (OwnKey b) k x y =
      ap (λ (key : SignKey). OwnKey key) (one_key (spaced (codes "key" ∷ text ∷ [])) a b x y)
  one_value text (Community a) (Community b) k x y = ap (λ (o : List ℕ). Community o) (one_oid text a b x y)
  one_value text (Kind m) (Kind n) k x y = ap (λ (v : ℕ). Kind v) (one_number text m n x y)
  one_value text (Anchored a) (Anchored b) k x y = ap (λ (t : TrustAnchor). Anchored t) (one_anchor text a b x y)
  one_value text e f k x y = absurd cc

  one_line : (line : List ℕ) (e f : ModuleEntry) → IsModuleLine line e → IsModuleLine line f → e ≡ f
  one_line line e f h k =
      let b = by_kind line e h in
      let is : cut 32 line ≡ Some (kind_name (kind_of e), b.0) =
      ap (cut 32) b.2 ∙ cut_again 32 (kind_name (kind_of e)) b.0 (no_space (kind_of e)) in
      let other = line_value line (kind_name (kind_of e)) b.0 (kind_of e) is (named_kind (kind_of e)) f k in
      one_value b.0 e f (sym other.0) b.1 other.1

  -- ---- one module

  pub one_module : (text : List ℕ) (owner other : Module) → ModuleRecipe text owner → ModuleRecipe text other
      → owner ≡ other
  one_module text owner other r s =
      same_plan owner other
      (sym r.2 ∙ ap module_parts (one_recipe module_rules one_line text r.0 s.0 r.1 s.1) ∙ s.2)
