use Rattle.config_table.proofs.KeyedLemmas.{distinct_tables}
use Rattle.config_table.proofs.state.State.stale_entries.Goals as goal

pub returns-clause-distinct : goal.returns-clause-distinct
returns-clause-distinct c =
    rw (← c.self.view_is)
    (distinct_tables c.self.inside.packages.entries c.self.inside.stale.entries c.self.invariant.0 c.self.invariant.1)
