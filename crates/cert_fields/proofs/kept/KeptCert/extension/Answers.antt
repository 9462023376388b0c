use Rattle.std.proofs.Common.{refl, subst}
use Rattle.cert_fields.specs.Certificate.{Certificate}
use Rattle.cert_fields.specs.Extensions.{StandsFor}
use Rattle.cert_fields.proofs.kept.KeptCert.extension.Goals as goal

pub returns-in-Some-clause-none : goal.returns-in-Some-clause-none
returns-in-Some-clause-none c never =
    absurd (never c.in-Some.list
    (subst (λ (certificate : Certificate). StandsFor certificate.signed.extensions c.in-Some.list) c.cert.ensures.fields
    ((c.in-Some.ensures.stands c.in-Some.list).0 refl)))
