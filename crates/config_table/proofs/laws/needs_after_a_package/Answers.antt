use Rattle.config_table.proofs.MetLemmas.{IsMet-with_package}
use Rattle.config_table.proofs.laws.needs_after_a_package.Goals as goal

pub returns : goal.returns
returns c = record { met = IsMet-with_package }
