use Rattle.std.proofs.Common.{List, ℕ, length, take, drop, ◌∙◌, ap}
use Rattle.edge_board.proofs.SureCalls.{sure_read}
use Rattle.edge_board.proofs.sure_board.SureBoardBoard.read.Goals as goal

pub returns-clause-reads : goal.returns-clause-reads
returns-clause-reads c =
    sure_read c.args.self.now _ c.args.at c.read_octets.new.into
    (c.read_octets.ensures
    ∙ ap (λ (l : List ℕ). take (length c.read_octets.new.into) (drop c.args.at l)) c.deref.ensures.value)
