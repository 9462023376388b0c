use Rattle.der_core.proofs.Streams.{items_going_on, items_of_splits}
use Rattle.der_core.proofs.laws.items_of_stream.Goals as goal

pub returns-clause-going_on : goal.returns-clause-going_on
returns-clause-going_on c stream ended so_far s rest others h = items_going_on stream ended so_far rest others s h

pub returns-clause-at_end : goal.returns-clause-at_end
returns-clause-at_end c = items_of_splits
