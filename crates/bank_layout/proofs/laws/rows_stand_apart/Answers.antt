use Rattle.bank_layout.proofs.Recovering.{row_alone}
use Rattle.bank_layout.proofs.laws.rows_stand_apart.Goals as goal

pub returns : goal.returns
returns c = record { row = row_alone }
