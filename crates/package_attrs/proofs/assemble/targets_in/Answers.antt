use Rattle.package_attrs.specs.AttributeTypes.{target_hardware_ids}
use Rattle.package_attrs.specs.Targets.{targets_text, AreTargets}
use Rattle.package_attrs.proofs.PackageLaws.{sound_one}
use Rattle.package_attrs.proofs.assemble.targets_in.Goals as goal

pub returns-clause-sound : goal.returns-clause-sound
returns-clause-sound c =
    sound_one targets_text AreTargets target_hardware_ids c.args.attrs.now
    c.in_ok-values_of.field-0.now c.read_targets.result c.in_ok-values_of.ensures.exact
    c.read_targets.ensures.spelled
