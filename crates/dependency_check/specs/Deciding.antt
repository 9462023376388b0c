-- The tests by which a broken need is found. With the package of this name installed, a need is lost where it is met
-- before and is a need of that package, in a greater version than its new one.
use Rattle.std.specs.Prelude.{Bool, ◌&&◌, not}
use Rattle.std.specs.List.{list_any}
use Rattle.package_attrs.specs.declared.name.PackageName.{PackageName}
use Rattle.config_table.specs.Names.{is_same, is_at_least}
use Rattle.config_table.specs.Rules.{is_met}
use Rattle.config_table.specs.State.{Entry, State}

-- whether the need is met, and isn't once a package of this name is installed
abbrev pub is_lost : {I : Type 0} → PackageName → State I → PackageName → Bool
is_lost name state need = is_same need name && (not (is_at_least name need) && is_met need state.packages)

-- whether the package isn't replaced and loses a need
abbrev pub loses_need : {I : Type 0} → PackageName → State I → Entry I → Bool
loses_need name state entry = not (is_same name entry.name) && list_any (is_lost name state) entry.needs
