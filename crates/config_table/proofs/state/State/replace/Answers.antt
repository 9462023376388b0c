use Rattle.std.proofs.Common.{ap, ◌∙◌, map}
use Rattle.std.specs.Map.{values_of}
use Rattle.config_table.specs.Stored.{entry_of}
use Rattle.config_table.proofs.KeyedLemmas.{placed_entries, keyed_entries}
use Rattle.config_table.proofs.state.State.replace.Goals as goal

pub invariant_of-self-2 : goal.invariant_of-self-2
invariant_of-self-2 c = (
  rw c.in_ok-insert.ensures.entries
      (keyed_entries c.args.installed c.self.inside.packages.entries c.self.invariant.0),
  c.self.invariant.1,
)

pub returns-clause-ok : goal.returns-clause-ok
returns-clause-ok c = rw (← c.self.view_is) (λ i. record {
  packages =
      (ap (λ es. map entry_of (values_of es)) c.in_ok-insert.ensures.entries
      ∙ placed_entries c.args.installed c.self.inside.packages.entries c.self.invariant.0) i;
  stale = values_of c.self.inside.stale.entries;
})
