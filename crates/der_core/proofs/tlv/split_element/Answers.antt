use Rattle.std.proofs.Common.{arith}
use Rattle.der_core.proofs.Faults.{is_found, is_refused}
use Rattle.der_core.proofs.tlv.split_element.Goals as goal

pub returns-clause-found : goal.returns-clause-found
returns-clause-found c =
    is_found c.args.bytes.now c.split.result (λ i. omega (arith, c.type_inv.bytes i)) c.split.ensures

pub returns-clause-fault : goal.returns-clause-fault
returns-clause-fault c =
    is_refused c.args.bytes.now c.split.result (λ i. omega (arith, c.type_inv.bytes i)) c.split.ensures
