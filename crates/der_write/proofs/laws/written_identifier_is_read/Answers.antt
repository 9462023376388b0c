use Rattle.std.proofs.Common.{arith, refl}
use Rattle.der_core.proofs.Shapes.{element-front, is_tag, oid-whole}
use Rattle.der_write.proofs.laws.written_identifier_is_read.Goals as goal

pub returns : goal.returns
returns c = λ octets rest is. (element-front 6 (is_tag 6 refl) (λ id valid. omega (arith, valid.most)) oid-whole).again octets rest is
