use Rattle.bank_layout.proofs.Kept.{kept_after, bank_places, blocks_counted, placed_counted}
use Rattle.bank_layout.proofs.laws.installed_states_are_kept.Goals as goal

pub returns-clause-kept : goal.returns-clause-kept
returns-clause-kept c = kept_after

pub returns-clause-places : goal.returns-clause-places
returns-clause-places c = bank_places

pub returns-clause-counted : goal.returns-clause-counted
returns-clause-counted c = blocks_counted

pub returns-clause-asked : goal.returns-clause-asked
returns-clause-asked c = placed_counted
