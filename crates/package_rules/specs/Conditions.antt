-- The conditions on a firmware package that a module's tables decide, by their numbers in der_core's `Condition`. What
-- stands for an image is any I, and none of them sees it.
use Rattle.std.specs.Prelude.{◌≤◌, List, [], ◌∷◌, length}
use Rattle.der_core.specs.Asked.{Asked, asked}
use Rattle.package_attrs.specs.Description.{Description}
use Rattle.config_table.specs.State.{State}
use Rattle.config_table.specs.Rules.{IsStale}
use Rattle.dependency_check.specs.Dependencies.{AllInstalled, AllMet, Unbroken}
use Rattle.package_rules.specs.Module.{Module}
use Rattle.package_rules.specs.Rules.{IsForHardware, IsInCommunity, IsOfListedKind}

-- the package is for this module, and goes with what the module has installed: its name isn't stale (2.2.3), its
-- dependencies are installed before it and in their versions (2.2.9), and it breaks no need of another package
abbrev pub module_conditions : {I : Type 0} → Module → Description → State I → State I → List Asked
module_conditions m described before after =
    asked 30 (IsForHardware m described)
    ∷ asked 31 (IsInCommunity m described)
    ∷ asked 32 (IsOfListedKind m described)
    ∷ asked 33 (¬ IsStale described.identifier.name before.stale)
    ∷ asked 34 (AllInstalled described.info.dependencies before.packages)
    ∷ asked 35 (AllMet described.info.dependencies before.packages)
    ∷ asked 36 (Unbroken described.identifier.name before after)
    ∷ []

-- the tables end at 64 packages and at 256 stale entries; both are this project's own limits
abbrev pub overflow_conditions : {I : Type 0} → State I → List Asked
overflow_conditions after = asked 39 (length after.packages ≤ 64) ∷ asked 40 (length after.stale ≤ 256) ∷ []
