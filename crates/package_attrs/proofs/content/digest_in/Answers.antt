use Rattle.std.proofs.Common.{length, ◌≡◌}
use Rattle.der_core.specs.Element.{enc}
use Rattle.package_attrs.specs.AttributeTypes.{message_digest}
use Rattle.package_attrs.proofs.PackageLaws.{sound_one}
use Rattle.package_attrs.proofs.content.digest_in.Goals as goal

pub returns-clause-sound : goal.returns-clause-sound
returns-clause-sound c =
    sound_one (enc 0x04) (λ octets. length octets ≡ 32) message_digest c.args.attrs.now
    c.in_ok-values_of.field-0.now
    c.read_digest.result c.in_ok-values_of.ensures.exact c.read_digest.ensures.spelled
