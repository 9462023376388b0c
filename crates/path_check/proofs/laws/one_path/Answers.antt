use Rattle.path_check.proofs.Chains.{one_path}
use Rattle.path_check.proofs.laws.one_path.Goals as goal

pub returns : goal.returns
returns c = λ name certificates anchors. one_path certificates anchors name
