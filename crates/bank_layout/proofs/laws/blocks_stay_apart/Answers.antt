use Rattle.bank_layout.proofs.Placed.{blocks_apart}
use Rattle.bank_layout.proofs.laws.blocks_stay_apart.Goals as goal

pub returns : goal.returns
returns c = record { apart = blocks_apart }
