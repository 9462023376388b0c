use Rattle.std.proofs.Common.{◌∙◌, sym}
use Rattle.cert_fields.specs.Certificate.{IsCertificate, certificate_text}
use Rattle.cert_fields.specs.View.{certificate_view}
use Rattle.recipe_text.proofs.Taking.{is_some-map}
use Rattle.recipe_text.proofs.WordLemmas.{tells}
use Rattle.recipe_text.proofs.words.is_certificate.Goals as goal

pub returns : goal.returns
returns c =
    tells certificate_text IsCertificate c.args.octets.now _ _
    (c.is_some.ensures ∙ sym (is_some-map certificate_view c.read_cert.result)) c.read_cert.ensures.spelled
