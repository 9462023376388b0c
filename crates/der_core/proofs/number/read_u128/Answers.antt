use Rattle.std.proofs.Common.{arith}
use Rattle.der_core.proofs.Numbers.{number_reads}
use Rattle.der_core.proofs.number.read_u128.Goals as goal

pub returns-clause-spelled : goal.returns-clause-spelled
returns-clause-spelled c =
    number_reads c.args.contents.now c.number.result (λ i. omega (arith, c.type_inv.contents i)) c.number.ensures
