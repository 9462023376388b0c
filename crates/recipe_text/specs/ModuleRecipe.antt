-- The module recipe: what a module is, line by line; this project's own.
use Rattle.std.specs.Prelude.{◌≡◌, ℕ, ◌≤◌, List, [], ◌∷◌, length, Option, Some, None, codes}
use Rattle.std.specs.List.{flat_map}
use Rattle.cert_fields.specs.Anchor.{TrustAnchor}
use Rattle.cert_fields.specs.Constraints.{ContentConstraint, AreConstraints, constraints_text}
use Rattle.lms_sign.specs.declared.key.SignKey.{SignKey}
use Rattle.module_record.specs.ModuleRecord.{IsKeyText}
use Rattle.module_record.specs.declared.module.Module.{Module}
use Rattle.recipe_text.specs.KeyRecipe.{IsKeyLine}
use Rattle.recipe_text.specs.Lines.{spaced, IsHex, Rules, Recipe, FirstBad}
use Rattle.recipe_text.specs.Words.{IsNumber, IsOidWord, IsHex64, IsNameWord}

-- ---- lines

-- What a line says.
pub data ModuleEntry : Type 0 where
  -- the hardware type, by the contents of its identifier
  HwType : List ℕ → ModuleEntry
  -- the serial number
  Serial : List ℕ → ModuleEntry
  -- how many blocks the installed images may have together
  Capacity : ℕ → ModuleEntry
  -- the key that the module signs with
  OwnKey : SignKey → ModuleEntry
  -- a community that it belongs to
  Community : List ℕ → ModuleEntry
  -- a package type that it takes
  Kind : ℕ → ModuleEntry
  -- a trust anchor
  Anchored : TrustAnchor → ModuleEntry

-- the word that a line begins with
abbrev pub module_name : ModuleEntry → List ℕ
module_name (HwType id) = codes "hwtype"
module_name (Serial octets) = codes "serial"
module_name (Capacity n) = codes "capacity"
module_name (OwnKey key) = codes "key"
module_name (Community id) = codes "community"
module_name (Kind n) = codes "type"
module_name (Anchored anchor) = codes "anchor"

-- N from 1 to 4,096
pub record IsCapacity (word : List ℕ) (n : ℕ) : Type 0 where
  pub number : IsNumber word n
  pub some : 1 ≤ n
  pub most : n ≤ 4096

-- KEY: HEX of the 60 octets of an HSS key (RFC 8554, section 6.1)
pub record IsAnchorKey (word octets : List ℕ) : Type 0 where
  pub hex : IsHex word octets
  pub text : IsKeyText octets

-- CCC: HEX of one text of content constraints of at most 2,048 octets (RFC 6010, section 3), or `-` for none
abbrev pub IsAnchorConstraints : List ℕ → Option (List ContentConstraint) → Type 0
IsAnchorConstraints word None = word ≡ codes "-"
IsAnchorConstraints word (Some entries) =
    IsHex word (constraints_text entries) × AreConstraints entries × (length (constraints_text entries) ≤ 2048)

-- NAME KEYID KEY CCC
pub record IsAnchorText (text : List ℕ) (a : TrustAnchor) : Type 0 where
  pub name : List ℕ
  pub id : List ℕ
  pub key : List ℕ
  pub constraints : List ℕ
  pub is_name : IsNameWord name a.subject
  pub is_id : IsHex64 id a.key_id
  pub is_key : IsAnchorKey key a.key
  pub are_constraints : IsAnchorConstraints constraints a.constraints
  pub spelled : text ≡ spaced (name ∷ id ∷ key ∷ constraints ∷ [])

-- what stands behind that word and a space; the line of a key is that of a key recipe
abbrev pub IsModuleValue : List ℕ → ModuleEntry → Type 0
IsModuleValue text (HwType id) = IsOidWord text id
IsModuleValue text (Serial octets) = IsHex64 text octets
IsModuleValue text (Capacity n) = IsCapacity text n
IsModuleValue text (OwnKey key) = IsKeyLine (spaced (codes "key" ∷ text ∷ [])) key
IsModuleValue text (Community id) = IsOidWord text id
IsModuleValue text (Kind n) = IsNumber text n
IsModuleValue text (Anchored anchor) = IsAnchorText text anchor

-- the line says this
abbrev pub IsModuleLine : List ℕ → ModuleEntry → Type 0
IsModuleLine line e = (text : List ℕ) × IsModuleValue text e × (line ≡ spaced (module_name e ∷ text ∷ []))

-- ---- entries

-- What lines say of each kind, in their order.
pub record ModuleParts : Type 0 where
  pub hw_types : List (List ℕ)
  pub serials : List (List ℕ)
  pub capacities : List ℕ
  pub keys : List SignKey
  pub communities : List (List ℕ)
  pub kinds : List ℕ
  pub anchors : List TrustAnchor

abbrev pub no_parts : ModuleParts
no_parts = record {
  hw_types = [];
  serials = [];
  capacities = [];
  keys = [];
  communities = [];
  kinds = [];
  anchors = [];
}

-- what one line says
abbrev pub module_part : ModuleEntry → ModuleParts
module_part (HwType id) = record no_parts { hw_types = id ∷ [] }
module_part (Serial octets) = record no_parts { serials = octets ∷ [] }
module_part (Capacity n) = record no_parts { capacities = n ∷ [] }
module_part (OwnKey key) = record no_parts { keys = key ∷ [] }
module_part (Community id) = record no_parts { communities = id ∷ [] }
module_part (Kind n) = record no_parts { kinds = n ∷ [] }
module_part (Anchored anchor) = record no_parts { anchors = anchor ∷ [] }

-- what all lines say
abbrev pub module_parts : List ModuleEntry → ModuleParts
module_parts entries = record {
  hw_types = flat_map (λ e. (module_part e).hw_types) entries;
  serials = flat_map (λ e. (module_part e).serials) entries;
  capacities = flat_map (λ e. (module_part e).capacities) entries;
  keys = flat_map (λ e. (module_part e).keys) entries;
  communities = flat_map (λ e. (module_part e).communities) entries;
  kinds = flat_map (λ e. (module_part e).kinds) entries;
  anchors = flat_map (λ e. (module_part e).anchors) entries;
}

-- these may stand together
pub record IsModuleFit (p : ModuleParts) : Type 0 where
  pub hw_types : length p.hw_types ≤ 1
  pub serials : length p.serials ≤ 1
  pub capacities : length p.capacities ≤ 1
  pub keys : length p.keys ≤ 1
  pub communities : length p.communities ≤ 64
  pub kinds : length p.kinds ≤ 64
  pub anchors : length p.anchors ≤ 16

-- these stand
pub record IsModuleWhole (p : ModuleParts) : Type 0 where
  pub hw_type : length p.hw_types ≡ 1
  pub serial : length p.serials ≡ 1
  pub capacity : length p.capacities ≡ 1
  pub key : length p.keys ≡ 1
  pub anchors : 1 ≤ length p.anchors

-- ---- recipes

-- the rules of a module recipe
abbrev pub module_rules : Rules ModuleEntry
module_rules = record {
  says = IsModuleLine;
  fit = λ entries. IsModuleFit (module_parts entries);
  whole = λ entries. IsModuleWhole (module_parts entries);
}

-- what lines say of this module
abbrev pub plan_parts : Module → ModuleParts
plan_parts m = record {
  hw_types = m.hw_type ∷ [];
  serials = m.serial ∷ [];
  capacities = m.capacity ∷ [];
  keys = m.key ∷ [];
  communities = m.communities;
  kinds = m.kinds;
  anchors = m.anchors;
}

-- the text is a recipe of this module
abbrev pub ModuleRecipe : List ℕ → Module → Type 0
ModuleRecipe text m =
    (entries : List ModuleEntry) × Recipe module_rules text entries × (module_parts entries ≡ plan_parts m)

-- the text is no module recipe, and its first bad line is line n, counted from 1
abbrev pub FirstBadModuleLine : List ℕ → ℕ → Type 0
FirstBadModuleLine text n = FirstBad module_rules text n
