use Rattle.std.proofs.Common.{arith}
use Rattle.item_intake.proofs.IntakeLemmas.{intake_erased, rises_weaker}
use Rattle.item_intake.proofs.reader.Reader.put.Goals as goal

pub returns-then-self-clause-erased : goal.returns-then-self-clause-erased
returns-then-self-clause-erased g c start item t =
    rises_weaker _ _ _ _ (omega (arith, t.few))
    (intake_erased start c.args.pool.now (g.B.Board.view c.args.board.now) c.args.self.now.intake t.seen t.intake_is)
