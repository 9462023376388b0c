use Rattle.std.proofs.Common.{List, None, inr, ap}
use Rattle.package_attrs.specs.declared.name.PackageName.{PackageName}
use Rattle.package_attrs.specs.declared.package.Info.{Info}
use Rattle.package_attrs.specs.AttributeTypes.{firmware_package_info}
use Rattle.package_attrs.proofs.PackageLaws.{missing_lacks, info_sound}
use Rattle.package_attrs.proofs.assemble.info_in.Goals as goal

pub returns-in-None-clause-sound : goal.returns-in-None-clause-sound
returns-in-None-clause-sound c =
    inr (
      missing_lacks firmware_package_info c.args.attrs.now c.requires c.in-None.ensures.exact,
      ap made c.none.ensures.none,
    )
  where
    made : List PackageName → Info
    made names = record { kind = None; dependencies = names }

pub returns-in-Some-clause-sound : goal.returns-in-Some-clause-sound
returns-in-Some-clause-sound c =
    info_sound c.args.attrs.now c.in-Some.values.now c.read_info.result c.in-Some.ensures.exact
    c.read_info.ensures.spelled
