use Rattle.std.proofs.Common.{arith}
use Rattle.cert_fields.proofs.ConstraintLaws.{own_kinds, own_told}
use Rattle.cert_fields.proofs.constraints.have_own_kinds.Goals as goal

pub returns : goal.returns
returns c =
    own_told c.have_own_types.result c.have_own_types.ensures.own
    (own_kinds c.args.attributes.now (λ i. omega (arith, c.type_inv.attributes i)) c.requires)
