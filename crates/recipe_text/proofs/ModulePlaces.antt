-- What each kind of line puts into the draft of a module.
use Rattle.std.proofs.Common.{◌≡◌, ℕ, Bool, true, not, ◌&&◌, List, [], ◌∷◌, ◌++◌, length, Option, refl, sym, subst, codes}
use Rattle.std.specs.Prelude.{is_some, nat_lt}
use Rattle.std.specs.Option.{option_to_list}
use Rattle.cert_fields.specs.Anchor.{TrustAnchor}
use Rattle.lms_sign.specs.declared.key.SignKey.{SignKey}
use Rattle.recipe_text.specs.declared.module_line.ModuleKind.{ModuleKind}
use Rattle.recipe_text.specs.declared.module_line.ModuleKind.TheVariants as kinds
use Rattle.recipe_text.specs.KeyRecipe.{IsKeyLine}
use Rattle.recipe_text.specs.Lines.{spaced}
use Rattle.recipe_text.specs.ModuleReading.{IsValueOf, grow}
use Rattle.recipe_text.specs.ModuleRecipe.{ModuleEntry, ModuleParts, IsModuleFit, IsCapacity, IsAnchorText}
use Rattle.recipe_text.specs.ModuleRecipe.ModuleEntry.{HwType, Serial, Capacity, OwnKey, Community, Kind, Anchored}
use Rattle.recipe_text.specs.Taking.{Takes}
use Rattle.recipe_text.specs.Words.{Exactly, IsNumber, IsOidWord, IsHex64}
use Rattle.recipe_text.proofs.Taking.{once, below}

pub at_kind : (kind k : ModuleKind) (text : List ℕ) (p q : ModuleParts) (good : Bool) → kind ≡ k
    → Takes (IsValueOf k text) IsModuleFit grow p q good → Takes (IsValueOf kind text) IsModuleFit grow p q good
at_kind kind k text p q good is t =
    subst (λ (x : ModuleKind). Takes (IsValueOf x text) IsModuleFit grow p q good) (sym is) t

-- a place for such values is filled once
abbrev Fills : {V : Type 0} → ModuleParts → (V → Type 0) → List V → (List V → ModuleParts) → ModuleKind → List ℕ → Type 0
Fills {V} p IsWord xs put kind text =
    (old value new : Option V) (good : Bool) → xs ≡ option_to_list old
    → good ≡ (not (is_some old) && is_some value) → (good ≡ true → new ≡ value) → Exactly IsWord value
    → Takes (IsValueOf kind text) IsModuleFit grow p (put (option_to_list new)) good

-- a list of such values is filled up to a limit
abbrev Adds : {V : Type 0} → ModuleParts → (V → Type 0) → List V → (List V → ModuleParts) → ℕ → ModuleKind → List ℕ
    → Type 0
Adds {V} p IsWord xs put most kind text =
    (value : Option V) (new : List V) (good : Bool) → good ≡ (nat_lt (length xs) most && is_some value)
    → (good ≡ true → new ≡ xs ++ option_to_list value) → Exactly IsWord value
    → Takes (IsValueOf kind text) IsModuleFit grow p (put new) good

module _ (p : ModuleParts) (fit : IsModuleFit p) (text : List ℕ) where
  only_hw_type : (e : ModuleEntry) → IsValueOf kinds.HwType text e → (v : List ℕ) × IsOidWord text v × (e ≡ HwType v)
  only_hw_type (HwType id) s = (id, s.1, refl)
  only_hw_type e s = absurd cc

  pub fill_hw_type : Fills p (IsOidWord text) p.hw_types (λ (ys : List (List ℕ)). record p { hw_types = ys }) kinds.HwType text
  fill_hw_type =
      once (IsValueOf kinds.HwType text) IsModuleFit grow (IsOidWord text) (λ (v : List ℕ). HwType v) (λ v w. (refl, w)) only_hw_type p
      p.hw_types (λ (ys : List (List ℕ)). record p { hw_types = ys }) (λ v. refl)
      (λ ys few. record { hw_types = few; serials = fit.serials; capacities = fit.capacities; keys = fit.keys; communities = fit.communities; kinds = fit.kinds; anchors = fit.anchors }) (λ v over. over.hw_types)

  only_serial : (e : ModuleEntry) → IsValueOf kinds.Serial text e → (v : List ℕ) × IsHex64 text v × (e ≡ Serial v)
  only_serial (Serial octets) s = (octets, s.1, refl)
  only_serial e s = absurd cc

  pub fill_serial : Fills p (IsHex64 text) p.serials (λ (ys : List (List ℕ)). record p { serials = ys }) kinds.Serial text
  fill_serial =
      once (IsValueOf kinds.Serial text) IsModuleFit grow (IsHex64 text) (λ (v : List ℕ). Serial v) (λ v w. (refl, w)) only_serial p
      p.serials (λ (ys : List (List ℕ)). record p { serials = ys }) (λ v. refl)
      (λ ys few. record { hw_types = fit.hw_types; serials = few; capacities = fit.capacities; keys = fit.keys; communities = fit.communities; kinds = fit.kinds; anchors = fit.anchors }) (λ v over. over.serials)

  only_capacity : (e : ModuleEntry) → IsValueOf kinds.Capacity text e → (v : ℕ) × IsCapacity text v × (e ≡ Capacity v)
  only_capacity (Capacity n) s = (n, s.1, refl)
  only_capacity e s = absurd cc

  pub fill_capacity : Fills p (IsCapacity text) p.capacities (λ (ys : List (ℕ)). record p { capacities = ys }) kinds.Capacity text
  fill_capacity =
      once (IsValueOf kinds.Capacity text) IsModuleFit grow (IsCapacity text) (λ (v : ℕ). Capacity v) (λ v w. (refl, w)) only_capacity p
      p.capacities (λ (ys : List (ℕ)). record p { capacities = ys }) (λ v. refl)
      (λ ys few. record { hw_types = fit.hw_types; serials = fit.serials; capacities = few; keys = fit.keys; communities = fit.communities; kinds = fit.kinds; anchors = fit.anchors }) (λ v over. over.capacities)

  only_key : (e : ModuleEntry) → IsValueOf kinds.Key text e → (v : SignKey) × IsKeyLine (spaced (codes "key" ∷ text ∷ [])) v × (e ≡ OwnKey v)
  only_key (OwnKey key) s = (key, s.1, refl)
  only_key e s = absurd cc

  pub fill_key : Fills p (IsKeyLine (spaced (codes "key" ∷ text ∷ []))) p.keys (λ (ys : List (SignKey)). record p { keys = ys }) kinds.Key text
  fill_key =
      once (IsValueOf kinds.Key text) IsModuleFit grow (IsKeyLine (spaced (codes "key" ∷ text ∷ []))) (λ (v : SignKey). OwnKey v) (λ v w. (refl, w)) only_key p
      p.keys (λ (ys : List (SignKey)). record p { keys = ys }) (λ v. refl)
      (λ ys few. record { hw_types = fit.hw_types; serials = fit.serials; capacities = fit.capacities; keys = few; communities = fit.communities; kinds = fit.kinds; anchors = fit.anchors }) (λ v over. over.keys)

  only_community : (e : ModuleEntry) → IsValueOf kinds.Community text e → (v : List ℕ) × IsOidWord text v × (e ≡ Community v)
  only_community (Community id) s = (id, s.1, refl)
  only_community e s = absurd cc

  pub add_community : Adds p (IsOidWord text) p.communities (λ (ys : List (List ℕ)). record p { communities = ys }) 64 kinds.Community text
  add_community =
      below (IsValueOf kinds.Community text) IsModuleFit grow (IsOidWord text) (λ (v : List ℕ). Community v) (λ v w. (refl, w)) only_community p
      p.communities (λ (ys : List (List ℕ)). record p { communities = ys }) (λ v. refl) 64
      (λ ys few. record { hw_types = fit.hw_types; serials = fit.serials; capacities = fit.capacities; keys = fit.keys; communities = few; kinds = fit.kinds; anchors = fit.anchors }) (λ v over. over.communities)

  only_type : (e : ModuleEntry) → IsValueOf kinds.Type text e → (v : ℕ) × IsNumber text v × (e ≡ Kind v)
  only_type (Kind n) s = (n, s.1, refl)
  only_type e s = absurd cc

  pub add_type : Adds p (IsNumber text) p.kinds (λ (ys : List (ℕ)). record p { kinds = ys }) 64 kinds.Type text
  add_type =
      below (IsValueOf kinds.Type text) IsModuleFit grow (IsNumber text) (λ (v : ℕ). Kind v) (λ v w. (refl, w)) only_type p
      p.kinds (λ (ys : List (ℕ)). record p { kinds = ys }) (λ v. refl) 64
      (λ ys few. record { hw_types = fit.hw_types; serials = fit.serials; capacities = fit.capacities; keys = fit.keys; communities = fit.communities; kinds = few; anchors = fit.anchors }) (λ v over. over.kinds)

  only_anchor : (e : ModuleEntry) → IsValueOf kinds.Anchor text e → (v : TrustAnchor) × IsAnchorText text v × (e ≡ Anchored v)
  only_anchor (Anchored anchor) s = (anchor, s.1, refl)
  only_anchor e s = absurd cc

  pub add_anchor : Adds p (IsAnchorText text) p.anchors (λ (ys : List (TrustAnchor)). record p { anchors = ys }) 16 kinds.Anchor text
  add_anchor =
      below (IsValueOf kinds.Anchor text) IsModuleFit grow (IsAnchorText text) (λ (v : TrustAnchor). Anchored v) (λ v w. (refl, w)) only_anchor p
      p.anchors (λ (ys : List (TrustAnchor)). record p { anchors = ys }) (λ v. refl) 16
      (λ ys few. record { hw_types = fit.hw_types; serials = fit.serials; capacities = fit.capacities; keys = fit.keys; communities = fit.communities; kinds = fit.kinds; anchors = few }) (λ v over. over.anchors)
