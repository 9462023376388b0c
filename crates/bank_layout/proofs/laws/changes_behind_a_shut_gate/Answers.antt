use Rattle.bank_layout.proofs.Recovering.{while_closing, while_shut}
use Rattle.bank_layout.proofs.laws.changes_behind_a_shut_gate.Goals as goal

pub returns-clause-closing : goal.returns-clause-closing
returns-clause-closing c = while_closing

pub returns-clause-shut : goal.returns-clause-shut
returns-clause-shut c = while_shut
