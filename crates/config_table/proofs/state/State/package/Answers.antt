use Rattle.std.proofs.Common.{sym, ap, ◌∙◌, option_map}
use Rattle.config_table.specs.Stored.{entry_of}
use Rattle.config_table.proofs.KeyedLemmas.{entry_at}
use Rattle.config_table.proofs.state.State.package.Goals as goal

pub returns-in-Some : goal.returns-in-Some
returns-in-Some c = record {
  entry = rw (← c.self.view_is)
      (sym (ap (option_map (λ p. entry_of p.1.now)) c.in-Some.is)
      ∙ entry_at c.self.inside.packages.entries c.args.place c.get_index.result c.get_index.ensures.entry);
}

pub returns-in-None : goal.returns-in-None
returns-in-None c = record {
  entry = rw (← c.self.view_is)
      (sym (ap (option_map (λ p. entry_of p.1.now)) c.in-None.is)
      ∙ entry_at c.self.inside.packages.entries c.args.place c.get_index.result c.get_index.ensures.entry);
}
