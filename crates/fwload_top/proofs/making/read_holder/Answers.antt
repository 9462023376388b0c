use Rattle.std.proofs.Common.{refl}
use Rattle.module_record.specs.declared.module.Module.{Module}
use Rattle.fwload_top.specs.declared.making.HolderKind.TheVariants as kinds
use Rattle.fwload_top.specs.Making.{IsBadAt}
use Rattle.fwload_top.proofs.BadLineLemmas.{found_bad}
use Rattle.fwload_top.proofs.making.read_holder.Goals as goal

pub returns-in-Ok-clause-good : goal.returns-in-Ok-clause-good
returns-in-Ok-clause-good c = rw c.in-Key.is ((c.in-Ok.ensures.good c.in-Ok.key).0 refl)

pub returns-in-Err-clause-bad : goal.returns-in-Err-clause-bad
returns-in-Err-clause-bad c = rw c.in-Key.is ((c.in-Err.ensures.bad c.in-Err.bad.0).0 refl)

pub returns-in-Ok-read_module_recipe-clause-good : goal.returns-in-Ok-read_module_recipe-clause-good
returns-in-Ok-read_module_recipe-clause-good c =
    rw c.in-Module.is ((c.in-Ok-read_module_recipe.ensures.good c.in-Ok-read_module_recipe.owner).0 refl)

pub returns-in-Err-read_module_recipe-clause-bad : goal.returns-in-Err-read_module_recipe-clause-bad
returns-in-Err-read_module_recipe-clause-bad c =
    let failed = c.in-Err-read_module_recipe in
    rw c.in-Module.is (found_bad Module (IsBadAt kinds.Module c.args.recipe.now) failed.fault failed.ensures.bad)
