use Rattle.der_core.proofs.Streams.{split_once}
use Rattle.der_core.proofs.laws.one_split.Goals as goal

pub returns : goal.returns
returns c = split_once
