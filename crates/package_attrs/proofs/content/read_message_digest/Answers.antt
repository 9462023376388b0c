use Rattle.package_attrs.specs.AttributeTypes.{message_digest}
use Rattle.package_attrs.specs.PackageReading.{digest_in}
use Rattle.package_attrs.proofs.PackageLaws.{told, digest-whole}
use Rattle.package_attrs.proofs.content.read_message_digest.Goals as goal

pub returns-clause-told : goal.returns-clause-told
unfolding digest_in
returns-clause-told c =
    told message_digest c.args.attrs.now c.digest_in.result digest-whole c.requires.own c.digest_in.ensures.exact c.digest_in.ensures.sound
