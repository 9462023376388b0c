use Rattle.std.proofs.Common.{arith}
use Rattle.der_core.proofs.HeadLemmas.{heads_found, heads_refused}
use Rattle.der_core.proofs.head.read_head.Goals as goal

pub returns-clause-found : goal.returns-clause-found
returns-clause-found c =
    heads_found c.args.bytes.now c.head.result (λ i. omega (arith, c.type_inv.bytes i)) c.head.ensures

pub returns-clause-fault : goal.returns-clause-fault
returns-clause-fault c =
    heads_refused c.args.bytes.now c.head.result (λ i. omega (arith, c.type_inv.bytes i)) c.head.ensures
