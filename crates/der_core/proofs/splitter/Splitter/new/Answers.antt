use Rattle.std.proofs.lemmas.Grind.{merely}
use Rattle.der_core.proofs.Steps.{sees_fresh, reaches_fresh}
use Rattle.der_core.proofs.Streams.{stands_fresh}
use Rattle.der_core.proofs.splitter.Splitter.new.Goals as goal

pub returns-clause-fresh : goal.returns-clause-fresh
returns-clause-fresh c = sees_fresh c.new.result c.new.ensures

pub returns-clause-stream : goal.returns-clause-stream
returns-clause-stream c = stands_fresh _ (sees_fresh c.new.result c.new.ensures)

pub invariant_of-result : goal.invariant_of-result
invariant_of-result c = merely (reaches_fresh c.new.result c.new.ensures)
