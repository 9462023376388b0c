use Rattle.std.proofs.Common.{length, ◌∙◌}
use Rattle.edge_board.proofs.SureCalls.{keeps_program, long_flags, sure_program}
use Rattle.edge_board.proofs.sure_board.SureBoardBoard.program.Goals as goal

pub invariant_of-self-clause-sized : goal.invariant_of-self-clause-sized
invariant_of-self-clause-sized c =
    (keeps_program c.args.self.now c.args.at c.args.bytes.now _ c.mark_written.ensures.cells).size
    ∙ c.args.self.now.sized

pub invariant_of-self-clause-flags : goal.invariant_of-self-clause-flags
invariant_of-self-clause-flags c =
    long_flags c.args.self.now c.args.at (length c.args.bytes.now) c.mark_written.new.cells.items _
    c.mark_written.ensures.pending

pub returns-clause-programs : goal.returns-clause-programs
returns-clause-programs c =
    sure_program c.args.self.now _ c.args.at c.args.bytes.now _ _ c.mark_written.ensures.pending
    c.mark_written.ensures.cells c.requires.within
