use Rattle.std.proofs.Common.{arith, refl}
use Rattle.der_core.proofs.Shapes.{element-front, is_tag, number-whole, length-number-le}
use Rattle.der_write.proofs.laws.written_number_is_read.Goals as goal

pub returns : goal.returns
returns c = λ n rest small.
    (element-front 2 (is_tag 2 refl) (λ m fits. omega (arith, length-number-le m fits)) number-whole).again n rest small
