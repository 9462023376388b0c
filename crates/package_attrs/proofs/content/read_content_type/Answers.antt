use Rattle.package_attrs.specs.AttributeTypes.{content_type}
use Rattle.package_attrs.specs.PackageReading.{content_in}
use Rattle.package_attrs.proofs.PackageLaws.{told, one_oid-whole}
use Rattle.package_attrs.proofs.content.read_content_type.Goals as goal

pub returns-clause-told : goal.returns-clause-told
unfolding content_in
returns-clause-told c =
    told content_type c.args.attrs.now c.content_in.result one_oid-whole c.requires.own c.content_in.ensures.exact c.content_in.ensures.sound
