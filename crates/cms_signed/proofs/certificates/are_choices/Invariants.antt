use Rattle.std.proofs.Common.{◌≡◌, length, is_some}
use Rattle.der_core.specs.Shapes.{listed}
use Rattle.cms_signed.specs.SignerReading.{choice_at}
use Rattle.cms_signed.proofs.certificates.are_choices.Given as goal

-- what is left is read exactly where all is
abbrev pub invariant-loop-items : goal.invariant-loop-items
invariant-loop-items l = is_some (listed choice_at l.octets) ≡ is_some (listed choice_at l.items)

abbrev pub decreases-loop-items : goal.decreases-loop-items
decreases-loop-items l = length l.items
