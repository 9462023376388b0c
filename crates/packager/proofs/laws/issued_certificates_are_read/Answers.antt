use Rattle.packager.proofs.IssuedCertificates.{certificate_is}
use Rattle.packager.proofs.PlannedExtensions.{says, reads, says_planned}
use Rattle.packager.proofs.laws.issued_certificates_are_read.Goals as goal

pub returns : goal.returns
returns c = record {
  certificate = λ p signature plan few. certificate_is p plan signature few;
  extensions = λ p signature plan. (says p plan, reads p plan, says_planned p plan);
}
