use Rattle.bank_layout.proofs.Recovering.{once_open, next_standing}
use Rattle.bank_layout.proofs.laws.next_manifest_runs.Goals as goal

pub returns-clause-runs : goal.returns-clause-runs
returns-clause-runs c = λ a b m running manifest next holds keeps. once_open a b m running manifest holds keeps next

pub returns-clause-made : goal.returns-clause-made
returns-clause-made c = next_standing
