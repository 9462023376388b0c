use Rattle.bank_layout.proofs.Installs.{begun_moments, install_moments, install_done}
use Rattle.bank_layout.proofs.laws.an_install_leaves_old_or_new.Goals as goal

pub returns-clause-begun : goal.returns-clause-begun
returns-clause-begun g c = λ told old new m running manifest holds settled wrote shut.
    begun_moments g.B.Board.tells_cells told m running manifest (g.B.Board.view old) (g.B.Board.view new) holds settled
    wrote shut

pub returns-clause-moments : goal.returns-clause-moments
returns-clause-moments g c = λ told old mid new m running manifest next i.
    install_moments g.B.Board.tells_cells told m running manifest (g.B.Board.view old) (g.B.Board.view mid) i.holds
    i.settled i.writes i.shut next (g.B.Board.view new) i.sequence i.valid i.stands
    i.sealed i.switches

pub returns-clause-installed : goal.returns-clause-installed
returns-clause-installed g c = λ told old mid new m running manifest next i.
    install_done g.B.Board.tells_cells told m running manifest (g.B.Board.view old) (g.B.Board.view mid) i.holds
    i.settled i.writes i.shut next (g.B.Board.view new) i.sequence i.valid i.stands
    i.sealed i.switches
