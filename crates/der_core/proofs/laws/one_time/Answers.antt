use Rattle.der_core.proofs.Times.{one_utc, one_generalized}
use Rattle.der_core.proofs.TimeValues.{one_text}
use Rattle.der_core.proofs.laws.one_time.Goals as goal

pub returns : goal.returns
returns c = record { utc = one_utc; generalized = one_generalized; text = one_text }
