use Rattle.der_core.specs.Element.{enc}
use Rattle.der_core.specs.Objects.{IsOid}
use Rattle.package_attrs.specs.AttributeTypes.{content_type}
use Rattle.package_attrs.proofs.PackageLaws.{sound_one}
use Rattle.package_attrs.proofs.content.content_in.Goals as goal

pub returns-clause-sound : goal.returns-clause-sound
returns-clause-sound c =
    sound_one (enc 0x06) IsOid content_type c.args.attrs.now c.in_ok-values_of.field-0.now
    c.read_one_oid.result c.in_ok-values_of.ensures.exact c.read_one_oid.ensures.spelled
