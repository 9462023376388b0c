use Rattle.cert_fields.proofs.CertificateLaws.{certificate-whole, one_text}
use Rattle.cert_fields.proofs.laws.one_certificate_text.Goals as goal

pub returns-clause-unique : goal.returns-clause-unique
returns-clause-unique c = one_text

pub returns-clause-read : goal.returns-clause-read
returns-clause-read c = certificate-whole.again
