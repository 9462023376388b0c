use Rattle.der_core.proofs.Streams.{items_read, items_once, items_joined}
use Rattle.der_core.proofs.laws.one_list_of_items.Goals as goal

pub returns-clause-read : goal.returns-clause-read
returns-clause-read c = items_read

pub returns-clause-only : goal.returns-clause-only
returns-clause-only c = items_once

pub returns-clause-joined : goal.returns-clause-joined
returns-clause-joined c = items_joined
