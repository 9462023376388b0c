use Rattle.config_table.proofs.StateLemmas.{stale_made, stale_number_made}
use Rattle.config_table.proofs.laws.stale_stays_stale.Goals as goal

pub returns-clause-stale : goal.returns-clause-stale
returns-clause-stale c = stale_made

pub returns-clause-number : goal.returns-clause-number
returns-clause-number c = stale_number_made
