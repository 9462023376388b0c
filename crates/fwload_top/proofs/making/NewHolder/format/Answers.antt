use Rattle.fwload_top.proofs.making.NewHolder.format.Goals as goal

pub returns-in-Key-clause-moments : goal.returns-in-Key-clause-moments
returns-in-Key-clause-moments g c = rw c.in-Key.is c.format_key.ensures.moments

pub returns-in-Key-clause-touches : goal.returns-in-Key-clause-touches
returns-in-Key-clause-touches g c = rw c.in-Key.is c.format_key.ensures.touches

pub returns-in-Module-clause-formatted : goal.returns-in-Module-clause-formatted
returns-in-Module-clause-formatted g c = rw c.in-Module.is c.format.ensures.formatted

pub returns-in-Module-clause-moments : goal.returns-in-Module-clause-moments
returns-in-Module-clause-moments g c = rw c.in-Module.is c.format.ensures.moments

pub returns-in-Module-clause-touches : goal.returns-in-Module-clause-touches
returns-in-Module-clause-touches g c = rw c.in-Module.is c.format.ensures.touches
