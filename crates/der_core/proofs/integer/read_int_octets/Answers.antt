use Rattle.std.proofs.Common.{List, ℕ, Bor, arith}
use Rattle.der_core.proofs.Leaves.{int_octets-whole}
use Rattle.der_core.proofs.Shapes.{Answers-reads}
use Rattle.der_core.proofs.integer.read_int_octets.Goals as goal

pub returns-clause-spelled : goal.returns-clause-spelled
returns-clause-spelled c =
    Answers-reads (λ (octets : Bor (List ℕ)). octets.now) c.args.contents.now c.integer.result int_octets-whole
    (λ i. omega (arith, c.type_inv.contents i))
    c.integer.ensures
