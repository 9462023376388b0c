use Rattle.std.proofs.Common.{arith}
use Rattle.cert_fields.proofs.ConstraintLaws.{own_told}
use Rattle.cert_fields.proofs.ExtensionLaws.{own_extensions}
use Rattle.cert_fields.proofs.extension_list.have_own_kinds.Goals as goal

pub returns : goal.returns
returns c =
    own_told c.have_own_types.result c.have_own_types.ensures.own
    (own_extensions c.args.extensions.now (λ i. omega (arith, c.type_inv.extensions i)) c.requires)
