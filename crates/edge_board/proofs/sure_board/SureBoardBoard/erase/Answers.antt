use Rattle.std.proofs.Common.{◌*◌}
use Rattle.edge_board.proofs.SureCalls.{long_cells, long_flags, sure_erase}
use Rattle.edge_board.proofs.sure_board.SureBoardBoard.erase.Goals as goal

pub invariant_of-self-clause-sized : goal.invariant_of-self-clause-sized
invariant_of-self-clause-sized c =
    long_cells c.args.self.now (4096 * c.args.block) 4096 _ _ c.mark_filled.ensures.pending 255
    c.mark_filled.ensures.cells

pub invariant_of-self-clause-flags : goal.invariant_of-self-clause-flags
invariant_of-self-clause-flags c =
    long_flags c.args.self.now (4096 * c.args.block) 4096 c.mark_filled.new.cells.items _
    c.mark_filled.ensures.pending

pub returns-clause-erases : goal.returns-clause-erases
returns-clause-erases c =
    sure_erase c.args.self.now _ c.args.block _ _ c.mark_filled.ensures.pending
    c.mark_filled.ensures.cells c.requires.within
