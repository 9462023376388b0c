use Rattle.config_table.proofs.StateLemmas.{placed-new, raised-new}
use Rattle.config_table.proofs.laws.new_names_go_last.Goals as goal

pub returns-clause-placed : goal.returns-clause-placed
returns-clause-placed c = λ new state absent. placed-new new state.packages absent

pub returns-clause-stale : goal.returns-clause-stale
returns-clause-stale c = λ new state. raised-new new state
