use Rattle.package_attrs.specs.Identifier.{identifier_text, IsIdentifier, view}
use Rattle.package_attrs.specs.AttributeTypes.{firmware_package_id}
use Rattle.package_attrs.proofs.PackageLaws.{sound_view}
use Rattle.package_attrs.proofs.assemble.identifier_in.Goals as goal

pub returns-clause-sound : goal.returns-clause-sound
returns-clause-sound c =
    sound_view identifier_text IsIdentifier view firmware_package_id c.args.attrs.now
    c.in_ok-values_of.field-0.now
    c.read_identifier.result c.in_ok-values_of.ensures.exact c.read_identifier.ensures.spelled
