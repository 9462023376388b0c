use Rattle.package_rules.proofs.AlikeLemmas.{modules_hold, modules_first, limits_hold, limits_first}
use Rattle.package_rules.proofs.laws.images_do_not_matter.Goals as goal

pub returns-clause-hold : goal.returns-clause-hold
returns-clause-hold c = modules_hold

pub returns-clause-first : goal.returns-clause-first
returns-clause-first c = modules_first

pub returns-clause-room : goal.returns-clause-room
returns-clause-room c = limits_hold

pub returns-clause-overflow : goal.returns-clause-overflow
returns-clause-overflow c = limits_first

pub returns-clause-measured_hold : goal.returns-clause-measured_hold
returns-clause-measured_hold c = modules_hold

pub returns-clause-measured_first : goal.returns-clause-measured_first
returns-clause-measured_first c = modules_first

pub returns-clause-measured_room : goal.returns-clause-measured_room
returns-clause-measured_room c = limits_hold

pub returns-clause-measured_overflow : goal.returns-clause-measured_overflow
returns-clause-measured_overflow c = limits_first
