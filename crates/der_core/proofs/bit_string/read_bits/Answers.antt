use Rattle.std.proofs.Common.{List, ℕ, Bor, arith}
use Rattle.der_core.proofs.Leaves.{bits-whole}
use Rattle.der_core.proofs.Shapes.{Answers-reads}
use Rattle.der_core.proofs.bit_string.read_bits.Goals as goal

pub returns-clause-spelled : goal.returns-clause-spelled
returns-clause-spelled c =
    Answers-reads (λ (bits : ℕ × Bor (List ℕ)). (bits.0, bits.1.now)) c.args.contents.now c.bits.result bits-whole
    (λ i. omega (arith, c.type_inv.contents i)) c.bits.ensures
