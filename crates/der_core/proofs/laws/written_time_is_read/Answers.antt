use Rattle.der_core.proofs.Times.{written_again}
use Rattle.der_core.proofs.laws.written_time_is_read.Goals as goal

pub returns : goal.returns
returns c = written_again
