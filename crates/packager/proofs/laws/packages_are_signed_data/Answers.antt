use Rattle.std.proofs.Common.{arith, refl}
use Rattle.cms_signed.specs.Cut.{firmware_package}
use Rattle.cms_signed.specs.Message.{message_text}
use Rattle.packager.specs.PlannedMessage.{planned_message}
use Rattle.packager.proofs.Descriptions.{describes}
use Rattle.packager.proofs.Messages.{message_is, conditions_but, limit_is, tail_size}
use Rattle.packager.proofs.laws.packages_are_signed_data.Goals as goal

pub returns : goal.returns
returns c =
    let reads = c.one_certificate_text.ensures.read in
    record {
      message = λ p signature plan texts few. message_is p signature plan texts (omega (arith, few)) few reads;
      others = λ p signature plan texts few.
          conditions_but p signature plan texts (tail_size p signature plan texts few reads) reads;
      limit = λ p signature plan texts few.
          let tail = tail_size p signature plan texts few reads in (
            limit_is p signature plan texts tail,
            λ most. (c.accepted_items_are_messages.ensures firmware_package (message_text (planned_message p signature))).1
                (planned_message p signature, message_is p signature plan texts tail most reads, refl),
          );
      describes = describes;
    }
