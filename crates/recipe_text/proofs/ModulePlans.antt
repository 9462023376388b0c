-- A module recipe has one module, within the limits of a module.
use Rattle.std.proofs.Common.{◌≡◌, ℕ, ◌<◌, ◌^◌, ◌≤◌, List, length, refl, sym, ◌∙◌, ap, subst, arith}
use Rattle.std.specs.List.{AllByRecursion, flat_map}
use Rattle.cert_fields.specs.Anchor.{TrustAnchor}
use Rattle.der_core.specs.Objects.{IsOid}
use Rattle.lms_sign.specs.PublicKeys.{IsSignKey}
use Rattle.module_record.specs.ModuleRecord.{HasLimits, HasShortSubjects, IsKeptAnchor}
use Rattle.module_record.specs.declared.module.Module.{Module}
use Rattle.recipe_text.specs.ModuleRecipe.{ModuleEntry, ModuleParts, ModuleRecipe, IsModuleLine, IsModuleFit, IsModuleWhole}
use Rattle.recipe_text.specs.ModuleRecipe.{IsAnchorText, module_part, module_rules, plan_parts}
use Rattle.recipe_text.specs.ModuleRecipe.ModuleEntry.{HwType, Serial, Capacity, OwnKey, Community, Kind, Anchored}
use Rattle.recipe_text.proofs.Anchors.{constraints_short, key_text_size, name_tagged}
use Rattle.recipe_text.proofs.CertPlans.{first_of}
use Rattle.recipe_text.proofs.Sizes.{recipe_all, name_size}

-- ---- one module

-- a module is what it says
abbrev pub module_view : Module → Module
module_view m = m

-- the module of what lines say, where d is a module
module_from : Module → ModuleParts → Module
module_from d p = record {
  hw_type = first_of d.hw_type p.hw_types;
  serial = first_of d.serial p.serials;
  communities = p.communities;
  kinds = p.kinds;
  capacity = first_of d.capacity p.capacities;
  anchors = p.anchors;
  key = first_of d.key p.keys;
}

module_back : (d v : Module) → module_from d (plan_parts v) ≡ v
unfolding module_from first_of
module_back d v = refl

pub same_plan : (v w : Module) → plan_parts v ≡ plan_parts w → v ≡ w
same_plan v w e = sym (module_back v v) ∙ ap (module_from v) e ∙ module_back v w

pub is_whole : (v : Module) → 1 ≤ length v.anchors → IsModuleWhole (plan_parts v)
is_whole v some = record {
  hw_type = refl;
  serial = refl;
  capacity = refl;
  key = refl;
  anchors = some;
}

-- ---- what a line says is within its limits

hw_type_valid : (line : List ℕ) (e : ModuleEntry) → IsModuleLine line e → AllByRecursion IsOid (module_part e).hw_types
hw_type_valid line (HwType id) h = (h.1.valid, tt)
hw_type_valid line e h = tt

abbrev IsSerial : List ℕ → Type 0
IsSerial octets = (0 < length octets) × (length octets ≤ 64)

serial_valid : (line : List ℕ) (e : ModuleEntry) → IsModuleLine line e → AllByRecursion IsSerial (module_part e).serials
serial_valid line (Serial octets) h = ((h.1.some, h.1.most), tt)
serial_valid line e h = tt

abbrev IsCount : ℕ → Type 0
IsCount n = (1 ≤ n) × (n ≤ 4096)

capacity_valid : (line : List ℕ) (e : ModuleEntry) → IsModuleLine line e
    → AllByRecursion IsCount (module_part e).capacities
capacity_valid line (Capacity n) h = ((h.1.some, h.1.most), tt)
capacity_valid line e h = tt

key_valid : (line : List ℕ) (e : ModuleEntry) → IsModuleLine line e → AllByRecursion IsSignKey (module_part e).keys
key_valid line (OwnKey key) h = (h.1.valid, tt)
key_valid line e h = tt

community_valid : (line : List ℕ) (e : ModuleEntry) → IsModuleLine line e
    → AllByRecursion IsOid (module_part e).communities
community_valid line (Community id) h = (h.1.valid, tt)
community_valid line e h = tt

abbrev IsSmall : ℕ → Type 0
IsSmall n = n < 2 ^ 128

kind_valid : (line : List ℕ) (e : ModuleEntry) → IsModuleLine line e → AllByRecursion IsSmall (module_part e).kinds
kind_valid line (Kind n) h = (h.1.0, tt)
kind_valid line e h = tt

anchor_kept : (text : List ℕ) (a : TrustAnchor) → IsAnchorText text a → IsKeptAnchor a
anchor_kept text a h =
    let are = constraints_short h.constraints a.constraints h.are_constraints in
    record {
      anchor = record {
        subject = name_tagged h.name a.subject h.is_name;
        key_id = record { some = h.is_id.some; most = h.is_id.most };
        key = key_text_size a.key h.is_key.text;
        constraints = are.0;
      };
      key = h.is_key.text;
      constraints = are.1;
    }

anchor_valid : (line : List ℕ) (e : ModuleEntry) → IsModuleLine line e
    → AllByRecursion IsKeptAnchor (module_part e).anchors
anchor_valid line (Anchored a) h = (anchor_kept h.0 a h.1, tt)
anchor_valid line e h = tt

abbrev HasShortSubject : TrustAnchor → Type 0
HasShortSubject a = length a.subject ≤ 1024

subject_short : (line : List ℕ) (e : ModuleEntry) → IsModuleLine line e
    → AllByRecursion HasShortSubject (module_part e).anchors
subject_short line (Anchored a) h = (omega (arith, name_size h.1.name a.subject h.1.is_name), tt)
subject_short line e h = tt

-- ---- a recipe's module is within its limits

module _ (text : List ℕ) (m : Module) (r : ModuleRecipe text m) where
  -- what all lines say of one kind
  all_say : {A : Type 0} (P : A → Type 0) (part : ModuleParts → List A)
      → ((line : List ℕ) (e : ModuleEntry) → IsModuleLine line e → AllByRecursion P (part (module_part e)))
      → flat_map (λ e. part (module_part e)) r.0 ≡ part (plan_parts m) → AllByRecursion P (part (plan_parts m))
  all_say P part each is =
      subst (AllByRecursion P) is (recipe_all module_rules P (λ e. part (module_part e)) each text r.0 r.1)

  pub limits : HasLimits m
  limits =
      let fit = subst IsModuleFit r.2 r.1.3 in
      let whole = subst IsModuleWhole r.2 r.1.4 in
      let serial = all_say IsSerial (λ p. p.serials) serial_valid (ap (λ (p : ModuleParts). p.serials) r.2) in
      let capacity = all_say IsCount (λ p. p.capacities) capacity_valid (ap (λ (p : ModuleParts). p.capacities) r.2) in
      record {
        hw_type = (all_say IsOid (λ p. p.hw_types) hw_type_valid (ap (λ (p : ModuleParts). p.hw_types) r.2)).0;
        some_serial = serial.0.0;
        most_serial = serial.0.1;
        communities =
            all_say IsOid (λ p. p.communities) community_valid (ap (λ (p : ModuleParts). p.communities) r.2);
        most_communities = fit.communities;
        kinds = all_say IsSmall (λ p. p.kinds) kind_valid (ap (λ (p : ModuleParts). p.kinds) r.2);
        most_kinds = fit.kinds;
        some_capacity = capacity.0.0;
        most_capacity = capacity.0.1;
        anchors = all_say IsKeptAnchor (λ p. p.anchors) anchor_valid (ap (λ (p : ModuleParts). p.anchors) r.2);
        some_anchors = whole.anchors;
        most_anchors = fit.anchors;
        key = (all_say IsSignKey (λ p. p.keys) key_valid (ap (λ (p : ModuleParts). p.keys) r.2)).0;
      }

  pub short_subjects : HasShortSubjects m
  short_subjects =
      all_say HasShortSubject (λ p. p.anchors) subject_short (ap (λ (p : ModuleParts). p.anchors) r.2)
