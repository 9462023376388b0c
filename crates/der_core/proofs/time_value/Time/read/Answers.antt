use Rattle.std.proofs.Common.{arith}
use Rattle.der_core.proofs.TimeValues.{value_says}
use Rattle.der_core.proofs.time_value.Time.read.Goals as goal

pub returns-clause-found : goal.returns-clause-found
returns-clause-found c =
    value_says c.args.tag c.args.contents.now c.read_value.result (λ i. omega (arith, c.type_inv.contents i))
    c.read_value.ensures
