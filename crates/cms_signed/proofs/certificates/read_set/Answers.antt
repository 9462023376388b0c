use Rattle.std.proofs.Common.{arith, sym, ◌∙◌}
use Rattle.cms_signed.proofs.SignerLaws.{certificates_are, arent_certificates}
use Rattle.cms_signed.proofs.certificates.read_set.Goals as goal

pub returns-then-are_choices : goal.returns-then-are_choices
returns-then-are_choices c =
    certificates_are c.args.octets.now (λ i. omega (arith, c.type_inv.octets i)) (sym c.are_choices.ensures ∙ c.if-are_choices.true)

pub returns-else-are_choices : goal.returns-else-are_choices
returns-else-are_choices c =
    arent_certificates c.args.octets.now (sym c.are_choices.ensures ∙ c.if-are_choices.false)
