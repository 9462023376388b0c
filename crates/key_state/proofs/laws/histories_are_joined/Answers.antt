use Rattle.key_state.proofs.Joins.{given_then, leads_then}
use Rattle.key_state.proofs.laws.histories_are_joined.Goals as goal

pub returns : goal.returns
returns c = record { joined = leads_then; given = given_then }
