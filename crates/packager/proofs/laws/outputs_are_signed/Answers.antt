use Rattle.cert_fields.specs.Certificate.{signed_text}
use Rattle.cms_signed.specs.Signer.{to_be_signed}
use Rattle.lms_sign.specs.SignTexts.{sign_text}
use Rattle.packager.specs.CertificatePlan.{planned_part}
use Rattle.packager.specs.PlannedMessage.{planned_attributes}
use Rattle.packager.proofs.SignatureSizes.{held_size}
use Rattle.packager.proofs.laws.outputs_are_signed.Goals as goal

pub returns : goal.returns
returns c = record {
  packages = λ p key leaf below. c.signatures_hold.ensures key leaf (to_be_signed (planned_attributes p)) below;
  certificates = λ p key leaf below. c.signatures_hold.ensures key leaf (signed_text (planned_part p)) below;
  size = λ key leaf message below.
      held_size key message (sign_text key leaf message) (c.signatures_hold.ensures key leaf message below);
}
