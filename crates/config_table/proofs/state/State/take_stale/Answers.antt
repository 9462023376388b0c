use Rattle.std.proofs.Common.{map, ap, ◌∙◌}
use Rattle.std.specs.Map.{values_of}
use Rattle.config_table.specs.Stored.{entry_of}
use Rattle.config_table.proofs.KeyedLemmas.{Raises, raised_entries}
use Rattle.config_table.proofs.state.State.take_stale.Goals as goal

raises : (c : goal.In_ok-insert)
    → Raises c.args.new c.raised_entry-entry.result c.last.result c.self.inside.stale.entries
raises c =
    raised_entries c.args.new _ _ _ c.self.invariant.1 c.last.ensures.last _ c.get.ensures.value
    c.raised_entry-entry.ensures.raised

pub invariant_of-self-2 : goal.invariant_of-self-2
invariant_of-self-2 c = (c.self.invariant.0, rw c.in_ok-insert.ensures.entries (raises c).keyed)

pub returns-clause-ok : goal.returns-clause-ok
returns-clause-ok c = rw (← c.self.view_is) (λ i. record {
  packages = map entry_of (values_of c.self.inside.packages.entries);
  stale = (ap values_of c.in_ok-insert.ensures.entries ∙ (raises c).values) i;
})
