-- The reading of a module recipe, in the order in which the code reads. Nothing here has to be believed.
use Rattle.std.specs.Prelude.{◌≡◌, ℕ, ◌≤◌, Bool, List, length, Option, Some, None, if◌then◌else◌, codes}
use Rattle.std.specs.Option.{option_to_list}
use Rattle.der_core.specs.Reading.{◌>>?◌}
use Rattle.recipe_text.specs.declared.anchor_line.Words.{Words}
use Rattle.recipe_text.specs.declared.module_draft.ModuleDraft.{ModuleDraft}
use Rattle.recipe_text.specs.declared.module_line.ModuleKind.{ModuleKind}
use Rattle.recipe_text.specs.declared.module_line.ModuleKind.TheVariants as kinds
use Rattle.recipe_text.specs.Lines.{IsHex}
use Rattle.recipe_text.specs.ModuleRecipe.{ModuleEntry, ModuleParts, IsModuleFit, IsModuleValue, module_part}
use Rattle.recipe_text.specs.ModuleRecipe.ModuleEntry.{HwType, Serial, Capacity, OwnKey, Community, Kind, Anchored}
use Rattle.recipe_text.specs.Reading.{cut, is_word}
use Rattle.recipe_text.specs.Taking.{grown, Takes}

-- ---- kinds of lines

abbrev pub kind_name : ModuleKind → List ℕ
kind_name kinds.HwType = codes "hwtype"
kind_name kinds.Serial = codes "serial"
kind_name kinds.Capacity = codes "capacity"
kind_name kinds.Key = codes "key"
kind_name kinds.Community = codes "community"
kind_name kinds.Type = codes "type"
kind_name kinds.Anchor = codes "anchor"

-- the kind of the line that begins with this word
unfoldable pub kind_named : List ℕ → Option ModuleKind
kind_named name =
    if is_word name (codes "hwtype") then Some kinds.HwType
    else if is_word name (codes "serial") then Some kinds.Serial
    else if is_word name (codes "capacity") then Some kinds.Capacity
    else if is_word name (codes "key") then Some kinds.Key
    else if is_word name (codes "community") then Some kinds.Community
    else if is_word name (codes "type") then Some kinds.Type
    else if is_word name (codes "anchor") then Some kinds.Anchor
    else None

abbrev pub kind_of : ModuleEntry → ModuleKind
kind_of (HwType id) = kinds.HwType
kind_of (Serial octets) = kinds.Serial
kind_of (Capacity n) = kinds.Capacity
kind_of (OwnKey key) = kinds.Key
kind_of (Community id) = kinds.Community
kind_of (Kind n) = kinds.Type
kind_of (Anchored anchor) = kinds.Anchor

-- a line of this kind says this, with this text behind its first word
abbrev pub IsValueOf : ModuleKind → List ℕ → ModuleEntry → Type 0
IsValueOf kind text e = (kind_of e ≡ kind) × IsModuleValue text e

-- ---- anchors

-- the four words of an anchor
pub record AnchorWords : Type 0 where
  pub name : List ℕ
  pub id : List ℕ
  pub key : List ℕ
  pub constraints : List ℕ

abbrev pub words_view : Words → AnchorWords
words_view w = record { name = w.name.now; id = w.id.now; key = w.key.now; constraints = w.constraints.now }

-- what stands behind `anchor`, cut at its first three spaces
unfoldable pub words_of : List ℕ → Option AnchorWords
words_of text =
    cut 32 text >>? λ name. cut 32 name.1 >>? λ id. cut 32 id.1 >>? λ key.
    Some (record { name = name.0; id = id.0; key = key.0; constraints = key.1 })

-- `-`, or HEX of at most 2,048 octets
abbrev pub IsShortHex : List ℕ → Option (List ℕ) → Type 0
IsShortHex word None = word ≡ codes "-"
IsShortHex word (Some octets) = IsHex word octets × (length octets ≤ 2048)

-- ---- what is said so far

-- with what one more line says
abbrev pub grow : ModuleParts → ModuleEntry → ModuleParts
grow p e = record {
  hw_types = grown p.hw_types (module_part e).hw_types;
  serials = grown p.serials (module_part e).serials;
  capacities = grown p.capacities (module_part e).capacities;
  keys = grown p.keys (module_part e).keys;
  communities = grown p.communities (module_part e).communities;
  kinds = grown p.kinds (module_part e).kinds;
  anchors = grown p.anchors (module_part e).anchors;
}

-- what a draft keeps
abbrev pub draft_parts : ModuleDraft → ModuleParts
draft_parts d = record {
  hw_types = option_to_list d.hw_type;
  serials = option_to_list d.serial;
  capacities = option_to_list d.capacity;
  keys = option_to_list d.key;
  communities = d.communities.items;
  kinds = d.kinds.items;
  anchors = d.anchors.items;
}

-- the draft takes a line that says such an entry, or refuses it
abbrev pub TakesModule : (ModuleEntry → Type 0) → ModuleDraft → ModuleDraft → Bool → Type 0
TakesModule IsSaid old new good = Takes IsSaid IsModuleFit grow (draft_parts old) (draft_parts new) good
