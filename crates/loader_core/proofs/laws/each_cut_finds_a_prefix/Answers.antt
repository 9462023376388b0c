use Rattle.loader_core.proofs.Cutting.{kept_of_cut, round_of_cut, life_of_cuts}
use Rattle.loader_core.proofs.laws.each_cut_finds_a_prefix.Goals as goal

pub returns-clause-finds : goal.returns-clause-finds
returns-clause-finds g c = λ m start cut tells run found.
    c.headline.ensures.run m cut.at start cut.items cut.image cut.sent (kept_of_cut g.B.Board.view g.met.B.Board.honest tells m start cut run found)

pub returns-clause-all : goal.returns-clause-all
returns-clause-all g c = λ m start cut verdicts tells run found judged all.
    c.headline.ensures.all m cut.at start cut.items verdicts cut.image cut.sent judged all
    (kept_of_cut g.B.Board.view g.met.B.Board.honest tells m start cut run found)

pub returns-clause-round : goal.returns-clause-round
returns-clause-round g c = λ m start cut tells run found. round_of_cut g.B.Board.view g.met.B.Board.honest tells m start cut run found

pub returns-clause-life : goal.returns-clause-life
returns-clause-life g c = λ m first cuts tells found follow. life_of_cuts g.B.Board.view g.met.B.Board.honest tells m c.headline.ensures.life first cuts found follow
