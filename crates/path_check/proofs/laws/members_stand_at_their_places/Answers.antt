use Rattle.path_check.proofs.MemberLemmas.{path_within, members_count, member_there}
use Rattle.path_check.proofs.laws.members_stand_at_their_places.Goals as goal

pub returns-clause-count : goal.returns-clause-count
returns-clause-count c = λ name certificates anchors path is.
    members_count certificates path.members (path_within certificates anchors name path is).0

pub returns-clause-place : goal.returns-clause-place
returns-clause-place c = λ name certificates anchors path i place is at.
    member_there certificates path.members i place (path_within certificates anchors name path is).0 at
