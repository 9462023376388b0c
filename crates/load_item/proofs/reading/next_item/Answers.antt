use Rattle.load_item.proofs.ReadLemmas.{stays}
use Rattle.load_item.proofs.reading.next_item.Goals as goal

pub returns-clause-stays : goal.returns-clause-stays
returns-clause-stays g c = λ tells.
    stays g.B.Board.tells_cells c.args.store.now (g.B.Board.view c.args.board.now) (g.B.Board.view c.read_item.new.board)
    c.unnamed_blocks_have_no_say.ensures.store c.requires.quiet (c.requires.holds tells) (c.requires.settled tells)
    c.read_item.ensures.touches tells
