use Rattle.std.proofs.Common.{◌≡◌, length}
use Rattle.attribute_set.specs.Items.{items_of, AreItems}
use Rattle.cms_signed.specs.Certificates.{certificates_among}
use Rattle.cms_signed.specs.SignerReading.{choice_at}
use Rattle.cms_signed.proofs.certificates.next_certificate.Given as goal

-- no certificate was passed
abbrev pub invariant-loop-choice : goal.invariant-loop-choice
invariant-loop-choice l =
    AreItems choice_at l.items
    × (certificates_among (items_of choice_at l.fn.items) ≡ certificates_among (items_of choice_at l.items))

abbrev pub decreases-loop-choice : goal.decreases-loop-choice
decreases-loop-choice l = length l.items
