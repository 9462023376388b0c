use Rattle.std.proofs.Common.{sym, ap, ◌∙◌, option_map}
use Rattle.config_table.proofs.KeyedLemmas.{stale_at}
use Rattle.config_table.proofs.state.State.stale_entry.Goals as goal

pub returns-in-Some : goal.returns-in-Some
returns-in-Some c = record {
  entry = rw (← c.self.view_is)
      (sym (ap (option_map (λ p. p.1.now)) c.in-Some.is)
      ∙ stale_at c.self.inside.stale.entries c.args.place c.get_index.result c.get_index.ensures.entry);
}

pub returns-in-None : goal.returns-in-None
returns-in-None c = record {
  entry = rw (← c.self.view_is)
      (sym (ap (option_map (λ p. p.1.now)) c.in-None.is)
      ∙ stale_at c.self.inside.stale.entries c.args.place c.get_index.result c.get_index.ensures.entry);
}
