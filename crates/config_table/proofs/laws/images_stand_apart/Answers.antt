use Rattle.config_table.proofs.StateLemmas.{with_package-state_with}
use Rattle.config_table.proofs.laws.images_stand_apart.Goals as goal

pub returns-clause-read : goal.returns-clause-read
returns-clause-read c = with_package-state_with

pub returns-clause-measured : goal.returns-clause-measured
returns-clause-measured c = with_package-state_with

pub returns-clause-stored : goal.returns-clause-stored
returns-clause-stored c = with_package-state_with
