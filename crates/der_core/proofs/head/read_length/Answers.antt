use Rattle.std.proofs.Common.{arith}
use Rattle.der_core.proofs.HeadLemmas.{lengths_found, lengths_refused}
use Rattle.der_core.proofs.head.read_length.Goals as goal

pub returns-clause-found : goal.returns-clause-found
returns-clause-found c =
    lengths_found c.args.bytes.now c.split_length.result (λ i. omega (arith, c.type_inv.bytes i)) c.split_length.ensures

pub returns-clause-fault : goal.returns-clause-fault
returns-clause-fault c =
    lengths_refused c.args.bytes.now c.split_length.result (λ i. omega (arith, c.type_inv.bytes i)) c.split_length.ensures
