-- The state as the tables keep it: an image stands for its length and the blocks of flash that hold it.
use Rattle.std.specs.Prelude.{◌≡◌, ℕ, true, List, map}
use Rattle.std.specs.List.{AllByRecursion, IsDistinct}
use Rattle.std.specs.Map.{values_of}
use Rattle.package_attrs.specs.declared.name.PackageName.{PackageName}
use Rattle.config_table.specs.declared.installed.Installed.{Installed}
use Rattle.config_table.specs.declared.key.Key.{Key}
use Rattle.config_table.specs.Names.{is_same}
use Rattle.config_table.specs.State.{Entry, State, state_with}

-- where an image is kept: its length in octets, and its blocks in their order
pub record Stored : Type 0 where
  pub length : ℕ
  pub blocks : List ℕ

-- the same packages, with the lengths of their images alone
abbrev pub lengths : State Stored → State ℕ
lengths state = state_with (λ image. image.length) state

-- what an installed package says
abbrev pub entry_of : Installed → Entry Stored
entry_of installed = record {
  name = installed.name;
  digest = installed.digest;
  image = record { length = installed.length; blocks = installed.blocks };
  kind = installed.kind;
  needs = installed.needs;
}

-- each value stands under a key that names the same package, and no two values name the same
pub record IsKeyed {X : Type 0} (name : X → PackageName) (entries : List (Key × X)) : Type 0 where
  pub keyed : AllByRecursion (λ e. is_same (name e.1) e.0.name ≡ true) entries
  pub distinct : IsDistinct is_same (map name (values_of entries))
