use Rattle.std.proofs.Common.{refl, [], arith}
use Rattle.cms_signed.proofs.signed.read_signed.Goals as goal

pub returns : goal.returns
returns c = record { answer = c.read_frame.ensures.answer [] (λ i. omega arith) refl }
