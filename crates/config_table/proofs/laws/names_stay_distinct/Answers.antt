use Rattle.config_table.proofs.StateLemmas.{distinct_made}
use Rattle.config_table.proofs.laws.names_stay_distinct.Goals as goal

pub returns : goal.returns
returns c = record { distinct = distinct_made }
