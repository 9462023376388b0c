use Rattle.std.proofs.Common.{refl, ◌∙◌}
use Rattle.edge_board.proofs.MemCalls.{board_begins}
use Rattle.edge_board.proofs.mem_board.MemBoard.with_cells.Goals as goal

pub returns-clause-begins : goal.returns-clause-begins
returns-clause-begins c = board_begins _ c.args.blocks c.args.cells.items refl
    (c.in_ok-copy_of.ensures ∙ c.deref.ensures.value) c.in_ok-with_capacity-2.ensures.items refl
    c.requires.faults
