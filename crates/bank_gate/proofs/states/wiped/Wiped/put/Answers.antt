use Rattle.std.proofs.Common.{subst}
use Rattle.edge_board.proofs.RunLemmas.{touch}
use Rattle.bank_gate.specs.Places.{IsPlace}
use Rattle.bank_gate.proofs.Shut.{gate_not_in_range, stays_shut}
use Rattle.bank_gate.proofs.states.wiped.Wiped.put.Goals as goal

pub returns-in_err-program-clause-shut : goal.returns-in_err-program-clause-shut
returns-in_err-program-clause-shut g c = λ told.
    stays_shut c.args.self _ _ told
    (gate_not_in_range c.args.self _ _ (subst IsPlace c.self.view_is c.self.invariant) c.requires.inside)
    (c.requires.shut told) (touch _ _ (g.met.B.Board.honest c.args.board.now) c.program.ensures.programs.effect)

pub returns-clause-shut : goal.returns-clause-shut
returns-clause-shut g c = λ told.
    stays_shut c.args.self _ _ told
    (gate_not_in_range c.args.self _ _ (subst IsPlace c.self.view_is c.self.invariant) c.requires.inside)
    (c.requires.shut told) (touch _ _ (g.met.B.Board.honest c.args.board.now) c.program.ensures.programs.effect)
