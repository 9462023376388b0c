use Rattle.bank_layout.proofs.Running.{greatest, open_over}
use Rattle.bank_layout.proofs.laws.greatest_sequence_runs.Goals as goal

pub returns-clause-over : goal.returns-clause-over
returns-clause-over c = λ image m running manifest holds. open_over image m.capacity running manifest holds.in_force

pub returns-clause-greatest : goal.returns-clause-greatest
returns-clause-greatest c = λ image m running manifest holds. greatest image m.capacity running manifest holds.in_force
