use Rattle.std.proofs.Common.{◌∙◌}
use Rattle.edge_board.proofs.Filled.{written_turn}
use Rattle.edge_board.proofs.cells.write_octets.Goals as goal

pub loop-i-preserved : goal.loop-i-preserved
loop-i-preserved c = written_turn c.args.at c.loop-i.i c.args.bytes.now c.loop-i.octets
    c.loop-i-test.true ∙ c.loop-i.invariant
