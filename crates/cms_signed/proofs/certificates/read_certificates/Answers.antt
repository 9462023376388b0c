use Rattle.cms_signed.proofs.SignerLaws.{no_certificates, nothing_is}
use Rattle.cms_signed.proofs.certificates.read_certificates.Goals as goal

pub invariant_of-result : goal.invariant_of-result
invariant_of-result c = nothing_is

pub returns-in-None : goal.returns-in-None
returns-in-None c = rw c.in-None.is no_certificates
