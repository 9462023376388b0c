use Rattle.std.proofs.Common.{arith}
use Rattle.der_core.proofs.Shapes.{Answers-reads}
use Rattle.fwload_top.specs.TripleReading.{view}
use Rattle.fwload_top.proofs.TripleLaws.{triple-whole}
use Rattle.fwload_top.proofs.triple.read_triple.Goals as goal

pub returns : goal.returns
returns c = Answers-reads view c.args.input.now c.read_whole.result triple-whole
    (λ i. omega (arith, c.type_inv.input i)) c.read_whole.ensures
