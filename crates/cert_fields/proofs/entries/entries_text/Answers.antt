use Rattle.std.proofs.Common.{arith}
use Rattle.cert_fields.proofs.ConstraintLaws.{entries_left}
use Rattle.cert_fields.proofs.entries.entries_text.Goals as goal

pub returns-clause-text : goal.returns-clause-text
returns-clause-text c =
    (entries_left c.args.octets.now (λ i. omega (arith, c.type_inv.octets i)) c.requires.items).1

pub returns-clause-each : goal.returns-clause-each
returns-clause-each c =
    (entries_left c.args.octets.now (λ i. omega (arith, c.type_inv.octets i)) c.requires.items).0
