use Rattle.std.proofs.Common.{arith}
use Rattle.cert_fields.proofs.AnchorLaws.{name_told}
use Rattle.cert_fields.proofs.anchor.is_name.Goals as goal

pub returns : goal.returns
returns c =
    name_told c.args.octets.now c.name_in.result c.is_some.result (λ i. omega (arith, c.type_inv.octets i))
    c.name_in.ensures.exact c.is_some.ensures
