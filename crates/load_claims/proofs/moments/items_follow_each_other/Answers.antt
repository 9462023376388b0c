use Rattle.edge_board.proofs.SendLemmas.{sent_since}
use Rattle.load_claims.specs.Kept.{KeptIn}
use Rattle.load_claims.proofs.Serving.{loads_none, begun, loads_then, leaves_then, cuts_keep}
use Rattle.load_claims.proofs.moments.items_follow_each_other.Goals as goal

pub returns-clause-begins : goal.returns-clause-begins
returns-clause-begins g c = λ a m at start found. loads_none m at start (g.B.Board.view a) found

pub returns-clause-begun : goal.returns-clause-begun
returns-clause-begun g c = λ a m at start items settled found. begun m at start items (g.B.Board.view a) (g.met.B.Board.honest a) settled found

pub returns-clause-loads : goal.returns-clause-loads
returns-clause-loads g c = λ a b c' m at start mid end done items some more first second.
    loads_then m at start mid end done items some more (g.B.Board.view a) (g.B.Board.view b) (g.B.Board.view c') first second

pub returns-clause-moments : goal.returns-clause-moments
returns-clause-moments g c = λ told a b c' m at start mid done items some first so_far next.
    leaves_then m at told start mid done items some (g.B.Board.view a) (g.B.Board.view b) (g.B.Board.view c') (g.met.B.Board.honest a) (g.met.B.Board.honest b) first so_far next

pub returns-clause-claimed : goal.returns-clause-claimed
returns-clause-claimed g c = λ a b m at start items leaves. cuts_keep m at start items (g.B.Board.view a) (g.B.Board.view b) leaves

pub returns-clause-any_moment : goal.returns-clause-any_moment
returns-clause-any_moment g c = λ told a b m at start items keep p image s sent might.
    sent_since told (g.B.Board.view a) (g.B.Board.view b) (KeptIn m at start items) (g.met.B.Board.honest a) keep p image s sent might
