use Rattle.package_rules.proofs.BlockLemmas.{ends_held, length_held}
use Rattle.package_rules.proofs.laws.blocks_hold_their_ends.Goals as goal

pub returns-clause-ends : goal.returns-clause-ends
returns-clause-ends c = ends_held

pub returns-clause-length : goal.returns-clause-length
returns-clause-length c = length_held
