use Rattle.std.proofs.Common.{◌++◌, ◌∙◌, List, ℕ, ap}
use Rattle.cert_fields.specs.Certificate.{signed_text}
use Rattle.cms_signed.specs.Signer.{to_be_signed}
use Rattle.lms_sign.specs.SignTexts.{sign_text}
use Rattle.packager.specs.CertificatePlan.{planned_part}
use Rattle.packager.specs.PlannedMessage.{planned_attributes}
use Rattle.packager.proofs.SignatureSizes.{held_size}
use Rattle.packager.proofs.laws.finished_is_the_output.Goals as goal

pub returns : goal.returns
returns c = record {
  certificates = λ p unsigned key leaf below signed text.
      let message = signed_text (planned_part p) in
      let signature = sign_text key leaf message in
      ap (λ (o : List ℕ). unsigned.before ++ sign_text key leaf o) signed
      ∙ text signature (held_size key message signature (c.signatures_hold.ensures key leaf message below));
  packages = λ p unsigned key leaf below signed text.
      let message = to_be_signed (planned_attributes p) in
      let signature = sign_text key leaf message in
      ap (λ (o : List ℕ). unsigned.before ++ sign_text key leaf o) signed
      ∙ text signature (held_size key message signature (c.signatures_hold.ensures key leaf message below));
}
