-- The lines of a module recipe, by their words.
use Rattle.std.proofs.Common.{◌≡◌, ℕ, List, [], ◌∷◌, ◌++◌, Some, None, refl, sym, ◌∙◌, ap, codes, subst}
use Rattle.std.proofs.lemmas.Option.{none-some}
use Rattle.der_core.proofs.Numbers.{some_is}
use Rattle.recipe_text.specs.declared.module_line.ModuleKind.{ModuleKind}
use Rattle.recipe_text.specs.declared.module_line.ModuleKind.TheVariants as kinds
use Rattle.recipe_text.specs.ModuleReading.{kind_name, kind_named, kind_of, IsValueOf, grow}
use Rattle.recipe_text.specs.ModuleRecipe.{ModuleEntry, IsModuleFit, IsModuleLine, IsModuleValue, module_name}
use Rattle.recipe_text.specs.ModuleRecipe.{module_part, module_parts}
use Rattle.recipe_text.specs.ModuleRecipe.ModuleEntry.{HwType, Serial, Capacity, OwnKey, Community, Kind, Anchored}
use Rattle.recipe_text.specs.Reading.{cut}
use Rattle.recipe_text.proofs.Cuts.{Without, cut_takes}
use Rattle.recipe_text.proofs.Names.{without, one_of, cut_is, not_cut}
use Rattle.recipe_text.proofs.Recipes.{one_more, no_more}

-- ---- kinds

pub named_kind : (kind : ModuleKind) → kind_named (kind_name kind) ≡ Some kind
unfolding kind_named
named_kind kinds.HwType = refl
named_kind kinds.Serial = refl
named_kind kinds.Capacity = refl
named_kind kinds.Key = refl
named_kind kinds.Community = refl
named_kind kinds.Type = refl
named_kind kinds.Anchor = refl

kind_is : (name : List ℕ) (k : ModuleKind) → kind_named name ≡ Some k → name ≡ kind_name k
unfolding kind_named
kind_is name k e =
    one_of kind_name name (codes "hwtype") kinds.HwType k _ refl e (λ e.
    one_of kind_name name (codes "serial") kinds.Serial k _ refl e (λ e.
    one_of kind_name name (codes "capacity") kinds.Capacity k _ refl e (λ e.
    one_of kind_name name (codes "key") kinds.Key k _ refl e (λ e.
    one_of kind_name name (codes "community") kinds.Community k _ refl e (λ e.
    one_of kind_name name (codes "type") kinds.Type k _ refl e (λ e.
    one_of kind_name name (codes "anchor") kinds.Anchor k None refl e (λ e. absurd (none-some k e))))))))

pub no_space : (kind : ModuleKind) → Without 32 (kind_name kind)
no_space kinds.HwType = without 32 (kind_name kinds.HwType) refl
no_space kinds.Serial = without 32 (kind_name kinds.Serial) refl
no_space kinds.Capacity = without 32 (kind_name kinds.Capacity) refl
no_space kinds.Key = without 32 (kind_name kinds.Key) refl
no_space kinds.Community = without 32 (kind_name kinds.Community) refl
no_space kinds.Type = without 32 (kind_name kinds.Type) refl
no_space kinds.Anchor = without 32 (kind_name kinds.Anchor) refl

name_is : (e : ModuleEntry) → module_name e ≡ kind_name (kind_of e)
name_is (HwType id) = refl
name_is (Serial octets) = refl
name_is (Capacity n) = refl
name_is (OwnKey key) = refl
name_is (Community id) = refl
name_is (Kind n) = refl
name_is (Anchored anchor) = refl

-- ---- lines

pub by_kind : (line : List ℕ) (e : ModuleEntry) → IsModuleLine line e
    → (text : List ℕ) × IsModuleValue text e × (line ≡ kind_name (kind_of e) ++ 32 ∷ text)
by_kind line e h = (h.0, h.1, h.2 ∙ ap (λ (n : List ℕ). n ++ 32 ∷ h.0) (name_is e))

pub no_line : (line : List ℕ) → cut 32 line ≡ None → (e : ModuleEntry) → IsModuleLine line e → ⊥
no_line line none e h =
    let b = by_kind line e h in
    not_cut line (kind_name (kind_of e)) b.0 none (no_space (kind_of e)) b.2

pub no_kind : (line name text : List ℕ) → cut 32 line ≡ Some (name, text) → kind_named name ≡ None
    → (e : ModuleEntry) → IsModuleLine line e → ⊥
no_kind line name text is none e h =
    let b = by_kind line e h in
    let same = cut_is line name text (kind_name (kind_of e)) b.0 is (no_space (kind_of e)) b.2 in
    none-some (kind_of e) (sym none ∙ ap kind_named same.0 ∙ named_kind (kind_of e))

module _ (line name text : List ℕ) (kind : ModuleKind) (is : cut 32 line ≡ Some (name, text))
    (named : kind_named name ≡ Some kind) where
  pub value_line : (e : ModuleEntry) → IsValueOf kind text e → IsModuleLine line e
  value_line e h =
      let word : name ≡ module_name e = kind_is name kind named ∙ ap kind_name (sym h.0) ∙ sym (name_is e) in
      (text, h.1, (cut_takes 32 line (name, text) is).1 ∙ ap (λ (n : List ℕ). n ++ 32 ∷ text) word)

  pub line_value : (e : ModuleEntry) → IsModuleLine line e → IsValueOf kind text e
  line_value e h =
      let b = by_kind line e h in
      let same = cut_is line name text (kind_name (kind_of e)) b.0 is (no_space (kind_of e)) b.2 in
      let kinds-is : Some (kind_of e) ≡ Some kind =
      sym (named_kind (kind_of e)) ∙ ap kind_named (sym same.0) ∙ named in
      (some_is (kind_of e) kind kinds-is, subst (λ (t : List ℕ). IsModuleValue t e) (sym same.1) b.1)

-- ---- what lines say

pub parts_more : (es : List ModuleEntry) (e : ModuleEntry) → module_parts (es ++ e ∷ []) ≡ grow (module_parts es) e
parts_more es e = λ i. record {
  hw_types = one_more (λ (x : ModuleEntry). (module_part x).hw_types) es e i;
  serials = one_more (λ (x : ModuleEntry). (module_part x).serials) es e i;
  capacities = one_more (λ (x : ModuleEntry). (module_part x).capacities) es e i;
  keys = one_more (λ (x : ModuleEntry). (module_part x).keys) es e i;
  communities = one_more (λ (x : ModuleEntry). (module_part x).communities) es e i;
  kinds = one_more (λ (x : ModuleEntry). (module_part x).kinds) es e i;
  anchors = one_more (λ (x : ModuleEntry). (module_part x).anchors) es e i;
}

pub closed : (front back : List ModuleEntry) → IsModuleFit (module_parts (front ++ back))
    → IsModuleFit (module_parts front)
closed front back h = record {
  hw_types = no_more (λ (x : ModuleEntry). (module_part x).hw_types) front back 1 h.hw_types;
  serials = no_more (λ (x : ModuleEntry). (module_part x).serials) front back 1 h.serials;
  capacities = no_more (λ (x : ModuleEntry). (module_part x).capacities) front back 1 h.capacities;
  keys = no_more (λ (x : ModuleEntry). (module_part x).keys) front back 1 h.keys;
  communities = no_more (λ (x : ModuleEntry). (module_part x).communities) front back 64 h.communities;
  kinds = no_more (λ (x : ModuleEntry). (module_part x).kinds) front back 64 h.kinds;
  anchors = no_more (λ (x : ModuleEntry). (module_part x).anchors) front back 16 h.anchors;
}
