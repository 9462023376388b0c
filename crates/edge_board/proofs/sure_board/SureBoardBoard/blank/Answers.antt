use Rattle.edge_board.proofs.SureCalls.{long_cells, long_flags, sure_blank}
use Rattle.edge_board.proofs.sure_board.SureBoardBoard.blank.Goals as goal

pub invariant_of-self-clause-sized : goal.invariant_of-self-clause-sized
invariant_of-self-clause-sized c =
    long_cells c.args.self.now c.args.at 1 _ _ c.mark_filled.ensures.pending 0
    c.mark_filled.ensures.cells

pub invariant_of-self-clause-flags : goal.invariant_of-self-clause-flags
invariant_of-self-clause-flags c =
    long_flags c.args.self.now c.args.at 1 c.mark_filled.new.cells.items _
    c.mark_filled.ensures.pending

pub returns-clause-blanks : goal.returns-clause-blanks
returns-clause-blanks c =
    sure_blank c.args.self.now _ c.args.at _ _ c.mark_filled.ensures.pending
    c.mark_filled.ensures.cells c.requires.within
